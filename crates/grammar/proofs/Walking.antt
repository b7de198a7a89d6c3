-- The writing of a lawful tree is gone over to its end, so what cannot be gone over begins no such writing.
use Rattle.std.proofs.Common.{◌≡◌, ℕ, suc, ◌+◌, Bool, true, false, List, [], ◌∷◌, ◌++◌, length, Some, None, Option, sym, refl, ap, ◌∙◌, subst, arith}
use Rattle.std.proofs.lemmas.List.{append_assoc}
use Rattle.std.proofs.lemmas.Bool.{and_parts, both_ways, cond-true, cond-false}
use Rattle.std.proofs.lemmas.Bool.Decides.{nat_tests}
use Rattle.std.proofs.lemmas.Option.{none-some}
use Rattle.declarations.specs.Names.{letter}
use Rattle.orders.specs.Texts.{text_byte}
use Rattle.refusals.specs.Places.{GoesOn}
use Rattle.grammar.specs.Words.{capital, is_variable, is_feature, is_text}
use Rattle.grammar.specs.Trees.{Tree, Items, bare, described, none, item, label, written, listing, more, Limits, LawfulLabel, LawfulTree, LawfulList, LawfulItems, Written}
use Rattle.grammar.specs.Scanner.{Part, begin, in_name, colon, in_kind, comma, in_feature, equals, closed, State, state, start, step, runs, accepting}
use Rattle.grammar.proofs.Scanning.{runs-first, runs_join, Down, run_name, run_feature, run_kind}
use Rattle.scanning.proofs.Runs.{onward, runs_none, runs_append}

-- a whole term may end so
abbrev pub ended : Part → Bool
ended begin = false
ended (in_name n) = true
ended colon = false
ended in_kind = true
ended comma = false
ended (in_feature n) = false
ended equals = false
ended closed = true

pub at_comma : (L : Limits) (p : Part) (d : ℕ) → ended p ≡ true → step L (state p (suc d)) 44 ≡ Some (state comma (suc d))
at_comma L begin d e = absurd (both_ways false refl e)
at_comma L (in_name n) d e = refl
at_comma L colon d e = absurd (both_ways false refl e)
at_comma L in_kind d e = refl
at_comma L comma d e = absurd (both_ways false refl e)
at_comma L (in_feature n) d e = absurd (both_ways false refl e)
at_comma L equals d e = absurd (both_ways false refl e)
at_comma L closed d e = refl

pub at_close : (L : Limits) (p : Part) (d : ℕ) → ended p ≡ true → step L (state p (suc d)) 41 ≡ Some (state closed d)
at_close L begin d e = absurd (both_ways false refl e)
at_close L (in_name n) d e = refl
at_close L colon d e = absurd (both_ways false refl e)
at_close L in_kind d e = refl
at_close L comma d e = absurd (both_ways false refl e)
at_close L (in_feature n) d e = absurd (both_ways false refl e)
at_close L equals d e = absurd (both_ways false refl e)
at_close L closed d e = refl

pub ended_accepts : (p : Part) → ended p ≡ true → accepting (state p 0) ≡ true
ended_accepts begin e = e
ended_accepts (in_name n) e = refl
ended_accepts colon e = e
ended_accepts in_kind e = refl
ended_accepts comma e = e
ended_accepts (in_feature n) e = e
ended_accepts equals e = e
ended_accepts closed e = refl

-- a capital is in no kind text
pub capital-apart : (b : ℕ) → text_byte b ≡ true → capital b ≡ false
capital-apart b t = grind (arith, nat_tests)

module _ (L : Limits) (down : Down L) where
  -- a whole name, feature or kind text
  whole-name : (d : ℕ) (w : List ℕ) → is_variable w ≡ true → L.word (length w) ≡ true → runs L (state begin d) w ≡ Some (state (in_name (length w)) d)
  whole-name d [] v f = absurd (both_ways false refl v)
  whole-name d (b ∷ w) v f =
      let (h, t) = and_parts (capital b) _ v in
      let same : 1 + length w ≡ suc (length w) = omega arith in
      runs-first L (state begin d) b w (Some (state (in_name 1) d)) (cond-true _ _ _ h ∙ cond-true _ _ None (down 1 _ (omega arith) f))
      ∙ run_name L down d 1 w t (ap L.word same ∙ f) ∙ ap (λ k. Some (state (in_name k) d)) same

  whole_feature : (d : ℕ) (w : List ℕ) → is_feature w ≡ true → L.word (length w) ≡ true
      → runs L (state comma d) w ≡ Some (state (in_feature (length w)) d)
  whole_feature d [] v f = absurd (both_ways false refl v)
  whole_feature d (b ∷ w) v f =
      let (h, t) = and_parts (letter b) _ v in
      let same : 1 + length w ≡ suc (length w) = omega arith in
      runs-first L (state comma d) b w (Some (state (in_feature 1) d)) (cond-true _ _ _ h ∙ cond-true _ _ None (down 1 _ (omega arith) f))
      ∙ run_feature L down d 1 w t (ap L.word same ∙ f) ∙ ap (λ k. Some (state (in_feature k) d)) same

  text_begins : (d : ℕ) (w : List ℕ) → is_text w ≡ true → runs L (state begin d) w ≡ Some (state in_kind d)
  text_begins d [] v = absurd (both_ways false refl v)
  text_begins d (b ∷ w) v =
      let (h, t) = and_parts (text_byte b) _ v in
      runs-first L (state begin d) b w (Some (state in_kind d)) (cond-false _ _ _ (capital-apart b h) ∙ cond-true _ _ _ h) ∙ run_kind L d w t

  text-after : (d : ℕ) (w : List ℕ) → is_text w ≡ true → runs L (state colon d) w ≡ Some (state in_kind d)
  text-after d [] v = absurd (both_ways false refl v)
  text-after d (b ∷ w) v =
      let (h, t) = and_parts (text_byte b) _ v in
      runs-first L (state colon d) b w (Some (state in_kind d)) (cond-true _ _ _ h) ∙ run_kind L d w t

  head_runs : (d : ℕ) (o : Option (List ℕ)) (k : List ℕ) → LawfulLabel L o → is_text k ≡ true
      → runs L (state begin d) (label o ++ k) ≡ Some (state in_kind d)
  head_runs d (Some n) k l t =
      ap (runs L (state begin d)) (append_assoc n (58 ∷ []) k)
      ∙ runs_join L (state begin d) n (58 ∷ k) (state (in_name (length n)) d) _ (whole-name d n l.0 l.1)
      (runs-first L (state (in_name (length n)) d) 58 k (Some (state colon d)) refl ∙ text-after d k t)
  head_runs d None k l t = text_begins d k t

  -- a feature with its arrow, and what comes after
  item-runs : (d : ℕ) (f : List ℕ) (bs : List ℕ) → is_feature f ≡ true → L.word (length f) ≡ true
      → runs L (state comma d) (f ++ 61 ∷ 62 ∷ bs) ≡ runs L (state begin d) bs
  item-runs d f bs v w =
      runs_join L (state comma d) f (61 ∷ 62 ∷ bs) (state (in_feature (length f)) d) _ (whole_feature d f v w)
      (runs-first L (state (in_feature (length f)) d) 61 (62 ∷ bs) (Some (state equals d)) refl
      ∙ runs-first L (state equals d) 62 bs (Some (state begin d)) refl)

  mutual
    unfolding written LawfulTree

    pub written-runs : (d : ℕ) (t : Tree) → LawfulTree L d t → (p : Part) × (ended p ≡ true) × (runs L (state begin d) (written t) ≡ Some (state p d))
    written-runs d (bare n) l = (in_name (length n), refl, whole-name d n l.0 l.1)
    written-runs d (described o k items) l =
        let (p, e, h) = listing-runs d items l.2 in (
          p,
          e,
          ap (runs L (state begin d)) (sym (append_assoc (label o) k (listing items)))
              ∙ runs_join L (state begin d) (label o ++ k) (listing items) (state in_kind d) _ (head_runs d o k l.0 l.1) h,
        )

    pub listing-runs : (d : ℕ) (items : Items) → LawfulList L d items
        → (p : Part) × (ended p ≡ true) × (runs L (state in_kind d) (listing items) ≡ Some (state p d))
    listing-runs d none l = (in_kind, refl, runs_none (step L) (state in_kind d))
    listing-runs d (item f t rest) l =
        let (p, e, h) = written-runs (suc d) t l.3 in (
          closed,
          refl,
          runs-first L (state in_kind d) 40 _ (Some (state comma (suc d))) (cond-true _ _ None l.0)
              ∙ item-runs (suc d) f (written t ++ more rest) l.1 l.2
              ∙ runs_join L (state begin (suc d)) (written t) (more rest) (state p (suc d)) _ h (more-runs d rest p e l.4),
        )

    pub more-runs : (d : ℕ) (rest : Items) (p : Part) → ended p ≡ true → LawfulItems L (suc d) rest
        → runs L (state p (suc d)) (more rest) ≡ Some (state closed d)
    more-runs d none p e l = runs-first L (state p (suc d)) 41 [] (Some (state closed d)) (at_close L p d e) ∙ runs_none (step L) (state closed d)
    more-runs d (item f t rest) p e l =
        let (q, g, h) = written-runs (suc d) t l.2 in
        runs-first L (state p (suc d)) 44 _ (Some (state comma (suc d))) (at_comma L p d e)
        ∙ item-runs (suc d) f (written t ++ more rest) l.0 l.1
        ∙ runs_join L (state begin (suc d)) (written t) (more rest) (state q (suc d)) _ h (more-runs d rest q g l.3)

  -- a whole line
  pub line_runs : (t : Tree) → LawfulTree L 0 t → (s : State) × (accepting s ≡ true) × (runs L start (written t) ≡ Some s)
  line_runs t l = let (p, e, h) = written-runs 0 t l in (state p 0, ended_accepts p e, h)

  pub stuck : (front : List ℕ) → runs L start front ≡ None → GoesOn (Written L) front → ⊥
  stuck front e g =
      let (rest, (t, l, w)) = g in
      let (s, a, h) = line_runs t l in
      none-some s (sym (runs_append (step L) start front rest ∙ ap (λ o. onward (step L) o rest) e) ∙ ap (runs L start) (sym w) ∙ h)

  -- what is written is accepted
  pub written_accepts : (line : List ℕ) (s : State) → Written L line → runs L start line ≡ Some s → accepting s ≡ true
  written_accepts line s w e =
      let (q, a, h) = line_runs w.0 w.1 in
      let same : Some q ≡ Some s = sym h ∙ ap (runs L start) w.2 ∙ e in
      let is : q ≡ s = cc in
      subst (λ x. accepting x ≡ true) is a
