-- The place of a refusal lies in its line.
use Rattle.std.proofs.Common.{◌≡◌, ℕ, ◌+◌, ◌≤◌, List, [], ◌∷◌, ◌++◌, length, sym, refl, subst, inl, inr, arith}
use Rattle.std.proofs.lemmas.List.{length-append}
use Rattle.refusals.specs.declared.Refusal.{Refusal}
use Rattle.refusals.specs.declared.Refusal.TheVariants.{Limit, Grammar, Word, Kind, Memory}
use Rattle.refusals.specs.Places.{Breaks}
use Rattle.refusals.specs.Table.{row}
use Rattle.refusals.proofs.Known.{same_refusal, same_row}
use Rattle.orders.specs.Texts.{Texts}
use Rattle.declarations.specs.Declarations.{Declaration}
use Rattle.declarations.specs.Lines as kind_lines
use Rattle.declarations.specs.Lines.{tail}
use Rattle.features.specs.Lines as feature_lines
use Rattle.grammar.specs.Lines as term_lines
use Rattle.grammar.specs.Told.{told}
use Rattle.files.specs.Model.{Near}
use Rattle.files.proofs.Bounded.{told_bounded, wrong_bounded, kind_bounded}

breaks_within : (Lawful : List ℕ → Type 0) (line : List ℕ) (p : ℕ) → Breaks Lawful line p → p ≤ length line
breaks_within Lawful line p b = elim b.1 [ inl h ↦ omega (arith, h.0) | inr h ↦ omega (arith, h.0) ]

module _ (line : List ℕ) (e : Refusal) where
  near_limit : row e ≡ record { number = 1; values = 0 ∷ [] } → Near (length line) e
  near_limit r = subst (Near (length line)) (same_refusal e (Limit 0) 1 0 0 r refl refl) (omega arith)

  near_grammar : (p : ℕ) → p ≤ length line → row e ≡ record { number = 2; values = p ∷ [] } → Near (length line) e
  near_grammar p l r = subst (Near (length line)) (same_refusal e (Grammar p) 2 p p r refl refl) l

  near_word : (p : ℕ) → p ≤ length line → row e ≡ record { number = 3; values = p ∷ [] } → Near (length line) e
  near_word p l r = subst (Near (length line)) (same_refusal e (Word p) 3 p p r refl refl) l

  near_kind : (p : ℕ) → p ≤ length line → row e ≡ record { number = 4; values = p ∷ [] } → Near (length line) e
  near_kind p l r = subst (Near (length line)) (same_refusal e (Kind p) 4 p p r refl refl) l

  near_memory : row e ≡ record { number = 6; values = [] } → Near (length line) e
  near_memory r = subst (Near (length line)) (same_row e Memory (sym r)) tt

-- one word of a tail lies in it
in_tail : (done : List (List ℕ)) (word : List ℕ) (rest : List (List ℕ)) → length (tail done) + 1 ≤ length (tail (done ++ word ∷ rest))
unfolding tail
in_tail [] word rest = omega (arith, length-append word (tail rest))
in_tail (w ∷ done) word rest = omega (arith, in_tail done word rest, length-append w (tail done), length-append w (tail (done ++ word ∷ rest)))

word_within : (ds : List Declaration) (line : List ℕ) (l : kind_lines.Line line) (p : ℕ) → kind_lines.WrongWord ds line l p → p ≤ length line
word_within ds line l p (inl h) = omega (arith, h.1)
word_within ds line l p (inr (h, f)) =
    let t = in_tail f.done f.word f.more in
    let s : length (tail l.wider) ≡ length (tail (f.done ++ f.word ∷ f.more)) = rw f.split refl in
    let w : length line ≡ length (l.name ++ tail l.wider) = rw l.whole refl in
    omega (arith, f.place, t, s, w, length-append l.name (tail l.wider))

pub kind_near : (ds : List Declaration) (line : List ℕ) (e : Refusal) → kind_lines.Refuses 64 ds line e → Near (length line) e
kind_near ds line e (inl h) = near_limit line e h.1
kind_near ds line e (inr (inl (h, (p, b, r)))) = near_grammar line e p (breaks_within kind_lines.Line line p b) r
kind_near ds line e (inr (inr (h, (l, p, w, r)))) = near_word line e p (word_within ds line l p w) r

pub feature_near : (features : List (List ℕ)) (line : List ℕ) (e : Refusal) → feature_lines.Refuses features line e → Near (length line) e
feature_near features line e (inl h) = near_limit line e h.1
feature_near features line e (inr (inl (h, p, b, r))) = near_grammar line e p (breaks_within feature_lines.Lawful line p b) r
feature_near features line e (inr (inr (h, l, w, r))) = near_word line e 0 (omega arith) r

pub term_near : {K : Type 0} (m : Texts K) (features : List (List ℕ)) (room : ℕ) (line : List ℕ) (e : Refusal) → term_lines.Refuses m features room line e → Near (length line) e
term_near m features room line e (inl h) = near_limit line e h.1
term_near m features room line e (inr (inl (h, p, b, r))) = near_grammar line e p (breaks_within term_lines.Grammar line p b) r
term_near m features room line e (inr (inr (inl (l, p, w, r)))) =
    near_word line e p (wrong_bounded (length line) (told features l.tree) (told_bounded features line l) p w) r
term_near m features room line e (inr (inr (inr (inl (l, n, p, w, r))))) =
    near_kind line e p (kind_bounded (length line) (told features l.tree) (told_bounded features line l) m p w) r
term_near m features room line e (inr (inr (inr (inr (l, n, us, s, f, r))))) = near_memory line e r
