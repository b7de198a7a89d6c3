-- The sections of a file, by what the memory has that they are taken into.
use Rattle.std.proofs.Common.{◌≡◌, ℕ, suc, ◌+◌, ◌≤◌, List, [], map, Ok, Result, refl, sym, ◌∙◌, subst, Vec, vec_items, arith}
use Rattle.std.specs.Borrow.{Bor}
use Rattle.std.specs.Result.{IfOk}
use Rattle.refusals.specs.declared.Refusal.{Refusal}
use Rattle.orders.specs.Texts.{Texts}
use Rattle.declarations.specs.Lines as kind_lines
use Rattle.features.specs.declared.table.Features.{Features}
use Rattle.features.specs.Lines as feature_lines
use Rattle.features.specs.Model.{feature_names}
use Rattle.kinds.specs.declared.draft.Draft.{Draft}
use Rattle.kinds.specs.Lists.{drafted}
use Rattle.terms.specs.declared.term.Term.{Term}
use Rattle.terms.specs.Terms.{said_of}
use Rattle.files.specs.Files.{Section, TakesTerm}
use Rattle.files.specs.Model.{mapped}
use Rattle.files.specs.Shelves.{Empty, Filled, After, Takes, terms_of}
use Rattle.files.specs.declared.lines.shelf.Shelf.{Shelf}
use Rattle.files.proofs.Mapping.{section_mapped}

pub kinds_read : (limit : ℕ) (file : List ℕ) (s : ℕ) (d : Draft) (r : Result (Draft × ℕ) Refusal)
    → Section (λ d line e r. kind_lines.Declares 64 (drafted d) line (drafted e) r) limit file s d r → Section (kind_lines.Declares 64) limit file s (drafted d) (mapped drafted r)
kinds_read limit file s d r h =
    (section_mapped (λ d line e r. kind_lines.Declares 64 (drafted d) line (drafted e) r) (kind_lines.Declares 64) drafted (λ n d. Unit {0}) (λ n x line y a k t. (t, λ j e. tt)) file limit s d r (λ n l. tt) h).0

pub features_read : (limit : ℕ) (file : List ℕ) (s : ℕ) (f : Features) (r : Result (Features × ℕ) Refusal)
    → Section (λ f line g r. feature_lines.Declares (feature_names f) line (feature_names g) r) limit file s f r → Section feature_lines.Declares limit file s (feature_names f) (mapped feature_names r)
features_read limit file s f r h =
    (section_mapped (λ f line g r. feature_lines.Declares (feature_names f) line (feature_names g) r) feature_lines.Declares feature_names (λ n f. Unit {0}) (λ n x line y a k t. (t, λ j e. tt)) file limit s f r (λ n l. tt) h).0

module _ {K O : Type 0} (texts : O → Texts K) (order : Bor O) (features : Bor Features) where
  -- n lines more have a term each
  pub record Keeps (n : ℕ) (s : Shelf K O) : Type 0 where
    pub room : s.filled + n ≤ 200
    pub rooms : Empty (vec_items s.terms)
    pub order_is : s.order ≡ order
    pub features_are : s.features ≡ features

  step : (n : ℕ) (x : Shelf K O) (line : List ℕ) (y : Shelf K O) (a : Result ℕ Refusal) → Keeps (suc n) x → Takes (texts x.order.now) x line y a
      → TakesTerm (texts order.now) (feature_names features.now) (terms_of x) line (terms_of y) a × ((k : ℕ) → a ≡ Ok k → Keeps n y)
  step n x line y a k t =
      let (h, after) = t (record { more = omega (arith, k.room); rooms = k.rooms }) in
      (rw (sym k.order_is, sym k.features_are) h, λ j e. kept (subst (After x y) e after))
    where
      kept : Filled x y → Keeps n y
      kept f = record { room = omega (arith, k.room, f.filled); rooms = f.rooms; order_is = f.order ∙ k.order_is; features_are = f.features ∙ k.features_are }

  pub terms_read : (file : List ℕ) (s : ℕ) (x : Shelf K O) (r : Result (Shelf K O × ℕ) Refusal) → Keeps 200 x → Section (λ s line t r. Takes (texts s.order.now) s line t r) 200 file s x r
      → Section (TakesTerm (texts order.now) (feature_names features.now)) 200 file s (terms_of x) (mapped terms_of r) × IfOk r (λ p. Keeps 0 p.0)
  terms_read file s x r k h =
      section_mapped (λ s line t r. Takes (texts s.order.now) s line t r) (TakesTerm (texts order.now) (feature_names features.now)) terms_of Keeps step file 200 s x r
      (λ n l. record { room = omega (arith, k.room, l); rooms = k.rooms; order_is = k.order_is; features_are = k.features_are }) h

  pub begins : (terms : Vec (Term K) _) → Empty (vec_items terms) → Keeps 200 (record { order = order; features = features; terms = terms; filled = 0 })
  begins terms e = record { room = omega arith; rooms = e; order_is = refl; features_are = refl }

  -- the terms past those that were read are cut off
  pub cut_off : (file : List ℕ) (s next : ℕ) (terms read : List (Term K)) → read ≡ terms → Section (TakesTerm (texts order.now) (feature_names features.now)) 200 file s [] (Ok (map said_of terms, next))
      → Section (TakesTerm (texts order.now) (feature_names features.now)) 200 file s [] (Ok (map said_of read, next))
  cut_off file s next terms read is h = subst (λ ts. Section (TakesTerm (texts order.now) (feature_names features.now)) 200 file s [] (Ok (map said_of ts, next))) (sym is) h
