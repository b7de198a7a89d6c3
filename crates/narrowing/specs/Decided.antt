-- Going over a line part by part decides its grammar.
use Rattle.std.proofs.Common.{◌≡◌, ℕ, true, false, eqb, List, [], ◌∷◌, ◌++◌, Some, None, Option, refl, ap, ◌∙◌, inl, inr, arith}
use Rattle.std.specs.List.{AllByRecursion}
use Rattle.std.proofs.lemmas.Bool.{both_ways, cases_Bool, eqb-true, cond-true, cond-false}
use Rattle.std.proofs.lemmas.Option.{none-some}
use Rattle.orders.specs.Texts.{text_byte, IsText}
use Rattle.narrowing.specs.declared.line.Part.{Part}
use Rattle.narrowing.specs.declared.line.Part.TheVariants.{Start, First, Blank, Second}
use Rattle.narrowing.specs.Lines.{Line}
use Rattle.narrowing.specs.Scanner.{next_part, ends}
use Rattle.scanning.specs.Scanner.{runs, RunsOut, Decides}
use Rattle.scanning.proofs.Runs.{onward, runs-step, after_first}

abbrev AllText : List ℕ → Type 0
AllText bytes = AllByRecursion (λ b. text_byte b ≡ true) bytes

-- what is still to come from a part of the line, to its lawful end
abbrev Rest : Part → List ℕ → Type 0
Rest Start bytes = Line bytes
Rest First bytes = (t : List ℕ) × (u : List ℕ) × AllText t × IsText u × (bytes ≡ t ++ 32 ∷ u)
Rest Blank bytes = IsText bytes
Rest Second bytes = AllText bytes

-- a lawful line runs to its end
stay : (p : Part) → ((b : ℕ) → text_byte b ≡ true → next_part p b ≡ Some p) → (t more : List ℕ) → AllText t → runs next_part p (t ++ more) ≡ runs next_part p more
stay p h [] more a = refl
stay p h (b ∷ bs) more a =
    runs-step next_part p b (bs ++ more) ∙ ap (λ o. onward next_part o (bs ++ more)) (h b a.0) ∙ stay p h bs more a.1

run_second : (u : List ℕ) → AllText u → runs next_part Second u ≡ Some Second
unfolding runs
run_second [] a = refl
run_second (b ∷ bs) a =
    runs-step next_part Second b bs ∙ ap (λ o. onward next_part o bs) (cond-true _ (Some Second) None a.0) ∙ run_second bs a.1

run_blank : (u : List ℕ) → IsText u → runs next_part Blank u ≡ Some Second
run_blank [] h = absurd (omega arith)
run_blank (b ∷ bs) h =
    runs-step next_part Blank b bs ∙ ap (λ o. onward next_part o bs) (cond-true _ (Some Second) None h.1.0) ∙ run_second bs h.1.1

run_line : (t u : List ℕ) → IsText t → IsText u → runs next_part Start (t ++ 32 ∷ u) ≡ Some Second
run_line [] u h g = absurd (omega arith)
run_line (b ∷ bs) u h g =
    runs-step next_part Start b (bs ++ 32 ∷ u) ∙ ap (λ o. onward next_part o (bs ++ 32 ∷ u)) (cond-true _ (Some First) None h.1.0)
    ∙ stay First (λ c m. cond-true _ (Some First) _ m) bs (32 ∷ u) h.1.1 ∙ runs-step next_part First 32 u ∙ run_blank u g

lawful-runs : (line : List ℕ) → Line line → runs next_part Start line ≡ Some Second
lawful-runs line l = ap (runs next_part Start) l.whole ∙ run_line l.first l.second l.first_text l.second_text

-- and what runs to the end is a lawful line
wrong-end : (p : Part) → ◌≡◌ {A = Option Part} (Some p) (Some Second) → p ≡ Second
wrong-end p e = cc

rest : (p : Part) (bytes : List ℕ) → runs next_part p bytes ≡ Some Second → Rest p bytes
unfolding runs
rest Start [] e = absurd (let z : ◌≡◌ {A = ℕ} 0 1 = cc (wrong-end Start e) in omega arith)
rest First [] e = absurd (let z : ◌≡◌ {A = ℕ} 0 1 = cc (wrong-end First e) in omega arith)
rest Blank [] e = absurd (let z : ◌≡◌ {A = ℕ} 0 1 = cc (wrong-end Blank e) in omega arith)
rest Second [] e = tt
rest Start (b ∷ bs) e =
    elim (cases_Bool (text_byte b)) [
      | inl t ↦
          let (w, u, a, h, is) = rest First bs (after_first next_part Start b bs (Some First) Second (cond-true _ (Some First) None t) e) in
          record { first = b ∷ w; second = u; first_text = (omega arith, (t, a)); second_text = h; whole = ap (λ x. b ∷ x) is }
      | inr f ↦ absurd (none-some Second (after_first next_part Start b bs None Second (cond-false _ (Some First) None f) e))
    ]
rest First (b ∷ bs) e =
    elim (cases_Bool (text_byte b)) [
      | inl t ↦
          let (w, u, a, h, is) = rest First bs (after_first next_part First b bs (Some First) Second (cond-true _ (Some First) _ t) e) in
          (b ∷ w, u, (t, a), h, ap (λ x. b ∷ x) is)
      | inr f ↦
          elim (cases_Bool (eqb b 32)) [
            | inl s ↦
                let h = rest Blank bs (after_first next_part First b bs (Some Blank) Second (cond-false _ (Some First) _ f ∙ cond-true _ (Some Blank) None s) e) in
                ([], bs, tt, h, ap (λ x. x ∷ bs) (eqb-true b 32 s))
            | inr s ↦ absurd (none-some Second (after_first next_part First b bs None Second (cond-false _ (Some First) _ f ∙ cond-false _ (Some Blank) None s) e))
          ]
    ]
rest Blank (b ∷ bs) e =
    elim (cases_Bool (text_byte b)) [
      | inl t ↦ (omega arith, (t, rest Second bs (after_first next_part Blank b bs (Some Second) Second (cond-true _ (Some Second) None t) e)))
      | inr f ↦ absurd (none-some Second (after_first next_part Blank b bs None Second (cond-false _ (Some Second) None f) e))
    ]
rest Second (b ∷ bs) e =
    elim (cases_Bool (text_byte b)) [
      | inl t ↦ (t, rest Second bs (after_first next_part Second b bs (Some Second) Second (cond-true _ (Some Second) None t) e))
      | inr f ↦ absurd (none-some Second (after_first next_part Second b bs None Second (cond-false _ (Some Second) None f) e))
    ]

-- from every part of a line some bytes lead to its end
live : (p : Part) → (more : List ℕ) × RunsOut next_part ends p more
unfolding runs
live Start = (97 ∷ 32 ∷ 97 ∷ [], (Second, refl, refl))
live First = (32 ∷ 97 ∷ [], (Second, refl, refl))
live Blank = (97 ∷ [], (Second, refl, refl))
live Second = ([], (Second, refl, refl))

only_end : (p : Part) → ends p ≡ true → p ≡ Second
only_end Start e = absurd (both_ways false refl e)
only_end First e = absurd (both_ways false refl e)
only_end Blank e = absurd (both_ways false refl e)
only_end Second e = refl

-- the parts of a line decide which lines are lawful
pub decided : Decides Start next_part ends Line
decided =
    record {
      sound = λ line (q, e, t). rest Start line (e ∙ ap Some (only_end q t));
      complete = λ line l. (Second, lawful-runs line l, refl);
      live = live;
    }
