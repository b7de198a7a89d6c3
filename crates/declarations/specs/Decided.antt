-- Going over a line part by part decides its grammar.
use Rattle.std.proofs.Common.{◌≡◌, ℕ, ◌<◌, true, false, eqb, List, [], ◌∷◌, ◌++◌, length, Some, None, Option, refl, ap, ◌∙◌, inl, inr, arith}
use Rattle.std.specs.List.{AllByRecursion}
use Rattle.std.proofs.lemmas.Bool.{and_parts, and_from, both_ways, cases_Bool, eqb-true, cond-true, cond-false}
use Rattle.std.proofs.lemmas.Option.{none-some}
use Rattle.declarations.specs.declared.line.Part.{Part}
use Rattle.declarations.specs.declared.line.Part.TheVariants.{Start, Name, Blank, Wider}
use Rattle.declarations.specs.Names.{letter, name_byte, all_name, is_name}
use Rattle.declarations.specs.Lines.{tail, Line}
use Rattle.declarations.specs.Scanner.{next_part, ends}
use Rattle.scanning.specs.Scanner.{runs, RunsOut, Decides}
use Rattle.scanning.proofs.Runs.{onward, runs-step, after_first}

-- what is still to come from a place in the line, to its lawful end
abbrev Rest : Part → List ℕ → Type 0
Rest Start bytes = Line bytes
Rest Name bytes = (w : List ℕ) × (ws : List (List ℕ)) × (all_name w ≡ true) × AllByRecursion (λ v. is_name v ≡ true) ws × (0 < length ws) × (bytes ≡ w ++ tail ws)
Rest Blank bytes = (w : List ℕ) × (ws : List (List ℕ)) × (is_name w ≡ true) × AllByRecursion (λ v. is_name v ≡ true) ws × (bytes ≡ w ++ tail ws)
Rest Wider bytes = (w : List ℕ) × (ws : List (List ℕ)) × (all_name w ≡ true) × AllByRecursion (λ v. is_name v ≡ true) ws × (bytes ≡ w ++ tail ws)

-- a lawful line runs to its end
stay : (p : Part) → ((b : ℕ) → name_byte b ≡ true → next_part p b ≡ Some p) → (w more : List ℕ) → all_name w ≡ true → runs next_part p (w ++ more) ≡ runs next_part p more
unfolding all_name
stay p h [] more a = refl
stay p h (b ∷ bs) more a =
    let q = and_parts (name_byte b) _ a in
    runs-step next_part p b (bs ++ more) ∙ ap (λ o. onward next_part o (bs ++ more)) (h b q.0) ∙ stay p h bs more q.1

stay_wider : (w more : List ℕ) → all_name w ≡ true → runs next_part Wider (w ++ more) ≡ runs next_part Wider more
stay_wider = stay Wider (λ b n. cond-true _ (Some Wider) _ n)

run_word : (w more : List ℕ) → is_name w ≡ true → runs next_part Blank (w ++ more) ≡ runs next_part Wider more
run_word [] more n = absurd (both_ways false refl n)
run_word (b ∷ bs) more n =
    let q = and_parts (letter b) _ n in
    runs-step next_part Blank b (bs ++ more) ∙ ap (λ o. onward next_part o (bs ++ more)) (cond-true _ (Some Wider) None q.0) ∙ stay_wider bs more q.1

run_wider : (ws : List (List ℕ)) → AllByRecursion (λ w. is_name w ≡ true) ws → runs next_part Wider (tail ws) ≡ Some Wider
unfolding runs tail
run_wider [] a = refl
run_wider (w ∷ ws) a = run_word w (tail ws) a.0 ∙ run_wider ws a.1

run_tail : (ws : List (List ℕ)) → AllByRecursion (λ w. is_name w ≡ true) ws → 0 < length ws → runs next_part Name (tail ws) ≡ Some Wider
unfolding runs tail
run_tail [] a l = absurd (omega arith)
run_tail (w ∷ ws) a l = run_word w (tail ws) a.0 ∙ run_wider ws a.1

run_line : (w : List ℕ) (ws : List (List ℕ)) → is_name w ≡ true → AllByRecursion (λ v. is_name v ≡ true) ws → 0 < length ws → runs next_part Start (w ++ tail ws) ≡ Some Wider
run_line [] ws n a l = absurd (both_ways false refl n)
run_line (b ∷ bs) ws n a l =
    let q = and_parts (letter b) _ n in
    runs-step next_part Start b (bs ++ tail ws) ∙ ap (λ o. onward next_part o (bs ++ tail ws)) (cond-true _ (Some Name) None q.0)
    ∙ stay Name (λ c m. cond-true _ (Some Name) _ m) bs (tail ws) q.1 ∙ run_tail ws a l

lawful-runs : (line : List ℕ) → Line line → runs next_part Start line ≡ Some Wider
lawful-runs line l = ap (runs next_part Start) l.whole ∙ run_line l.name l.wider l.named l.each l.some

-- and what runs to the end is a lawful line
wrong-end : (p : Part) → ◌≡◌ {A = Option Part} (Some p) (Some Wider) → p ≡ Wider
wrong-end p e = cc

rest : (p : Part) (bytes : List ℕ) → runs next_part p bytes ≡ Some Wider → Rest p bytes
unfolding runs tail all_name
rest Start [] e = absurd (let z : ◌≡◌ {A = ℕ} 0 1 = cc (wrong-end Start e) in omega arith)
rest Name [] e = absurd (let z : ◌≡◌ {A = ℕ} 0 1 = cc (wrong-end Name e) in omega arith)
rest Blank [] e = absurd (let z : ◌≡◌ {A = ℕ} 0 1 = cc (wrong-end Blank e) in omega arith)
rest Wider [] e = ([], [], refl, tt, refl)
rest Start (b ∷ bs) e =
    elim (cases_Bool (letter b)) [
      | inl t ↦
          let (w, ws, a, all, some, is) = rest Name bs (after_first next_part Start b bs (Some Name) Wider (cond-true _ (Some Name) None t) e) in
          record { name = b ∷ w; wider = ws; named = and_from _ _ t a; each = all; some = some; whole = ap (λ x. b ∷ x) is }
      | inr f ↦ absurd (none-some Wider (after_first next_part Start b bs None Wider (cond-false _ (Some Name) None f) e))
    ]
rest Name (b ∷ bs) e =
    elim (cases_Bool (name_byte b)) [
      | inl t ↦
          let (w, ws, a, all, some, is) = rest Name bs (after_first next_part Name b bs (Some Name) Wider (cond-true _ (Some Name) _ t) e) in
          (b ∷ w, ws, and_from _ _ t a, all, some, ap (λ x. b ∷ x) is)
      | inr f ↦
          elim (cases_Bool (eqb b 32)) [
            | inl s ↦
                let (w, ws, n, all, is) = rest Blank bs (after_first next_part Name b bs (Some Blank) Wider (cond-false _ (Some Name) _ f ∙ cond-true _ (Some Blank) None s) e) in
                ([], w ∷ ws, refl, (n, all), omega arith, ap (λ x. x ∷ bs) (eqb-true b 32 s) ∙ ap (λ x. 32 ∷ x) is)
            | inr s ↦ absurd (none-some Wider (after_first next_part Name b bs None Wider (cond-false _ (Some Name) _ f ∙ cond-false _ (Some Blank) None s) e))
          ]
    ]
rest Blank (b ∷ bs) e =
    elim (cases_Bool (letter b)) [
      | inl t ↦
          let (w, ws, a, all, is) = rest Wider bs (after_first next_part Blank b bs (Some Wider) Wider (cond-true _ (Some Wider) None t) e) in
          (b ∷ w, ws, and_from _ _ t a, all, ap (λ x. b ∷ x) is)
      | inr f ↦ absurd (none-some Wider (after_first next_part Blank b bs None Wider (cond-false _ (Some Wider) None f) e))
    ]
rest Wider (b ∷ bs) e =
    elim (cases_Bool (name_byte b)) [
      | inl t ↦
          let (w, ws, a, all, is) = rest Wider bs (after_first next_part Wider b bs (Some Wider) Wider (cond-true _ (Some Wider) _ t) e) in
          (b ∷ w, ws, and_from _ _ t a, all, ap (λ x. b ∷ x) is)
      | inr f ↦
          elim (cases_Bool (eqb b 32)) [
            | inl s ↦
                let (w, ws, n, all, is) = rest Blank bs (after_first next_part Wider b bs (Some Blank) Wider (cond-false _ (Some Wider) _ f ∙ cond-true _ (Some Blank) None s) e) in
                ([], w ∷ ws, refl, (n, all), ap (λ x. x ∷ bs) (eqb-true b 32 s) ∙ ap (λ x. 32 ∷ x) is)
            | inr s ↦ absurd (none-some Wider (after_first next_part Wider b bs None Wider (cond-false _ (Some Wider) _ f ∙ cond-false _ (Some Blank) None s) e))
          ]
    ]

-- from every part of a line some bytes lead to its end
live : (p : Part) → (more : List ℕ) × RunsOut next_part ends p more
unfolding runs
live Start = (97 ∷ 32 ∷ 97 ∷ [], (Wider, refl, refl))
live Name = (32 ∷ 97 ∷ [], (Wider, refl, refl))
live Blank = (97 ∷ [], (Wider, refl, refl))
live Wider = ([], (Wider, refl, refl))

only_end : (p : Part) → ends p ≡ true → p ≡ Wider
only_end Start e = absurd (both_ways false refl e)
only_end Name e = absurd (both_ways false refl e)
only_end Blank e = absurd (both_ways false refl e)
only_end Wider e = refl

-- the parts of a line decide which lines are lawful
pub decided : Decides Start next_part ends Line
decided =
    record {
      sound = λ line (q, e, t). rest Start line (e ∙ ap Some (only_end q t));
      complete = λ line l. (Wider, lawful-runs line l, refl);
      live = live;
    }
