-- A band's text is what stands before the first stop.
use Rattle.std.proofs.Common.{◌≡◌, ℕ, true, false, List, take, Some, None}
use Rattle.std.specs.List.{AllByRecursion}
use Rattle.std.specs.Str.{IsUtf8}
use Rattle.std.proofs.ByRecursion.{All-weaker}
use Rattle.std.proofs.lemmas.Bool.{not_from_true}
use Rattle.std.proofs.lemmas.Option.{none-some}
use Rattle.orders.specs.Texts.{stops, part_byte, Back, Stopped, Stands}
use Rattle.orders.proofs.Singles as singles
use Rattle.bands.specs.declared.band.Band.{Band}
use Rattle.bands.specs.Texts.{text, written, ReadsText}
use Rattle.bands.specs.Letters.{text_written, written_letters, texts}
use Rattle.bands.proofs.Points.{text_utf8}

single : (b : Band) (t : List ℕ) → text b ≡ Some t → AllByRecursion (λ c. stops c ≡ false) t
single b t e =
    let p = text_written b t e in
    rw p.1 (All-weaker (λ c. part_byte c ≡ true) (λ c. stops c ≡ false) (λ c h. not_from_true (part_byte c) h) (written b) (written_letters b p.0))

-- bytes that are no text at all are the text of no band
pub no_text : (t : List ℕ) → (IsUtf8 t → ⊥) → ReadsText t None
no_text t h = record { found = λ b e. absurd (h (text_utf8 t b e)); stands = λ b e. absurd (none-some b e) }

module _ (bytes : List ℕ) (n : ℕ) (s : Stopped bytes n) where
  pub none_back : ReadsText (take n bytes) None → Back texts bytes None
  none_back r = singles.none_back texts single bytes n s (λ b. (r.found b, r.stands b))

  pub some_back : (band : Band) → ReadsText (take n bytes) (Some band) → Back texts bytes (Some (band, n))
  some_back band r = singles.some_back texts single bytes n s band (λ b. (r.found b, r.stands b))

  pub some_taken : (band : Band) → ReadsText (take n bytes) (Some band) → Stands texts bytes band n
  some_taken band r = singles.some_taken texts single bytes n s band (λ b. (r.found b, r.stands b))

-- the answer of `read_band` in each of its cases
pub ruleset read_cases = (none_back, some_back, some_taken)
