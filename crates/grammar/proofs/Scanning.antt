-- Going over bytes one by one: parts of a run, words, and what the limits leave.
use Rattle.std.proofs.Common.{◌≡◌, ℕ, suc, ◌+◌, ◌<◌, ◌≤◌, Bool, true, false, cond, eqb, List, [], ◌∷◌, ◌++◌, length, get_or, take, drop, Some, None, Option, sym, refl, ap, ◌∙◌, arith}
use Rattle.std.proofs.lemmas.List.{take-append-drop, take-take}
use Rattle.std.proofs.lemmas.Bool.{and_parts, cond-true, leb-true, le-leb}
use Rattle.std.proofs.lemmas.Option.{none-some}
use Rattle.declarations.specs.Names.{name_byte}
use Rattle.orders.specs.Texts.{text_byte}
use Rattle.grammar.specs.Words.{name_letter, all_by}
use Rattle.scanning.proofs.Runs as Runs
use Rattle.scanning.proofs.Runs.{onward, runs-step, runs_none, runs_append}
use Rattle.grammar.specs.Trees.{Limits, no_limits, limits}
use Rattle.grammar.specs.Scanner.{Part, begin, in_name, colon, in_kind, comma, in_feature, equals, closed, State, state, start, kept_if, step, runs}

-- one byte first
pub runs-first : (L : Limits) (s : State) (b : ℕ) (bs : List ℕ) (o : Option State) → step L s b ≡ o → runs L s (b ∷ bs) ≡ onward (step L) o bs
runs-first L s b bs o e = runs-step (step L) s b bs ∙ ap (λ x. onward (step L) x bs) e

-- one run after another
pub runs_join : (L : Limits) (s : State) (xs ys : List ℕ) (q : State) (o : Option State) → runs L s xs ≡ Some q → runs L q ys ≡ o → runs L s (xs ++ ys) ≡ o
runs_join L s xs ys q o e h = runs_append (step L) s xs ys ∙ ap (λ x. onward (step L) x ys) e ∙ h

-- one byte more
pub runs-more : (L : Limits) (line : List ℕ) (i : ℕ) (s : State) (o : Option State) → i < length line
    → runs L start (take i line) ≡ Some s → step L s (get_or line i 0) ≡ o → runs L start (take (i + 1) line) ≡ o
runs-more L line i s o = Runs.runs-more (step L) start s o line i

pub runs_start : (L : Limits) (line : List ℕ) → runs L start (take 0 line) ≡ Some start
runs_start L line = runs_none (step L) start

-- a run that leads somewhere has led somewhere before
pub runs-front : (L : Limits) (s : State) (xs ys : List ℕ) (q : State) → runs L s (xs ++ ys) ≡ Some q → (p : State) × (runs L s xs ≡ Some p)
runs-front L s xs ys q e = by_result (runs L s xs) refl
  where
    by_result : (o : Option State) → runs L s xs ≡ o → (p : State) × (runs L s xs ≡ Some p)
    by_result (Some p) h = (p, h)
    by_result None h = absurd (none-some q (sym (runs_append (step L) s xs ys ∙ ap (λ x. onward (step L) x ys) h) ∙ e))

take_split : (line : List ℕ) (m n : ℕ) → m ≤ n → take n line ≡ take m line ++ drop m (take n line)
take_split line m n l = sym (take-append-drop m (take n line)) ∙ ap (λ x. x ++ drop m (take n line)) (take-take m n line l)

pub runs_earlier : (L : Limits) (line : List ℕ) (m n : ℕ) (q : State) → m ≤ n → runs L start (take n line) ≡ Some q
    → (p : State) × (runs L start (take m line) ≡ Some p)
runs_earlier L line m n q l e = runs-front L start (take m line) (drop m (take n line)) q (ap (runs L start) (sym (take_split line m n l)) ∙ e)

pub runs_later : (L : Limits) (line : List ℕ) (m n : ℕ) → m ≤ n → runs L start (take m line) ≡ None → runs L start (take n line) ≡ None
runs_later L line m n l e =
    ap (runs L start) (take_split line m n l) ∙ runs_append (step L) start (take m line) (drop m (take n line))
    ∙ ap (λ x. onward (step L) x (drop m (take n line))) e

-- what goes on within the limits goes on without
unkept : (c b : Bool) (x q : State) (o : Option State) → cond c (kept_if b x) o ≡ Some q → cond c (Some x) o ≡ Some q
unkept true true x q o e = e
unkept true false x q o e = absurd (none-some q e)
unkept false b x q o e = e

unkept_second : (a c b : Bool) (x y q : State) (o : Option State) → cond a (Some y) (cond c (kept_if b x) o) ≡ Some q
    → cond a (Some y) (cond c (Some x) o) ≡ Some q
unkept_second true c b x y q o e = e
unkept_second false c b x y q o e = unkept c b x q o e

pub unlimited_step : (s : State) (b : ℕ) (q : State) → step limits s b ≡ Some q → step no_limits s b ≡ Some q
unlimited_step (state begin d) b q e = e
unlimited_step (state (in_name n) d) b q e = unkept (name_letter b) _ _ q _ e
unlimited_step (state colon d) b q e = e
unlimited_step (state in_kind d) b q e = unkept_second (text_byte b) (eqb b 40) _ _ _ q _ e
unlimited_step (state comma d) b q e = e
unlimited_step (state (in_feature n) d) b q e = unkept (name_byte b) _ _ q _ e
unlimited_step (state equals d) b q e = e
unlimited_step (state closed d) b q e = e

pub unlimited : (s : State) (bs : List ℕ) (q : State) → runs limits s bs ≡ Some q → runs no_limits s bs ≡ Some q
unlimited s [] q e = runs_none (step no_limits) s ∙ sym (runs_none (step limits) s) ∙ e
unlimited s (b ∷ bs) q e = by_result (step limits s b) refl (λ p. unlimited p bs q)
  where
    by_result : (o : Option State) → step limits s b ≡ o → ((p : State) → runs limits p bs ≡ Some q → runs no_limits p bs ≡ Some q)
        → runs no_limits s (b ∷ bs) ≡ Some q
    by_result (Some p) h next =
        runs-first no_limits s b bs (Some p) (unlimited_step s b p h) ∙ next p (sym (runs-first limits s b bs (Some p) h) ∙ e)
    by_result None h next = absurd (none-some q (sym (runs-first limits s b bs None h) ∙ e))

-- shorter words are lawful too
abbrev pub Down : Limits → Type 0
Down L = (m n : ℕ) → m ≤ n → L.word n ≡ true → L.word m ≡ true

pub down_no_limits : Down no_limits
down_no_limits m n l e = refl

pub down_limits : Down limits
down_limits m n l e = le-leb m 24 (omega (arith, leb-true n 24 e))

-- words
module _ (L : Limits) (down : Down L) where
  counted : (part : ℕ → Part) (more : ℕ → Bool) (d : ℕ)
      → ((n b : ℕ) → more b ≡ true → L.word (suc n) ≡ true → step L (state (part n) d) b ≡ Some (state (part (suc n)) d))
      → (n : ℕ) (w : List ℕ) → all_by more w ≡ true → L.word (n + length w) ≡ true
      → runs L (state (part n) d) w ≡ Some (state (part (n + length w)) d)
  unfolding all_by
  counted part more d one n [] a f = runs_none (step L) (state (part n) d) ∙ ap (λ k. Some (state (part k) d)) (omega arith)
  counted part more d one n (b ∷ w) a f =
      let (h, t) = and_parts (more b) _ a in
      let same : suc n + length w ≡ n + suc (length w) = omega arith in
      runs-first L (state (part n) d) b w (Some (state (part (suc n)) d)) (one n b h (down (suc n) _ (omega arith) f))
      ∙ counted part more d one (suc n) w t (ap L.word same ∙ f) ∙ ap (λ k. Some (state (part k) d)) same

  pub run_name : (d n : ℕ) (w : List ℕ) → all_by name_letter w ≡ true → L.word (n + length w) ≡ true
      → runs L (state (in_name n) d) w ≡ Some (state (in_name (n + length w)) d)
  run_name d = counted in_name name_letter d (λ n b h f. cond-true _ _ _ h ∙ cond-true _ _ None f)

  pub run_feature : (d n : ℕ) (w : List ℕ) → all_by name_byte w ≡ true → L.word (n + length w) ≡ true
      → runs L (state (in_feature n) d) w ≡ Some (state (in_feature (n + length w)) d)
  run_feature d = counted in_feature name_byte d (λ n b h f. cond-true _ _ _ h ∙ cond-true _ _ None f)

pub run_kind : (L : Limits) (d : ℕ) (w : List ℕ) → all_by text_byte w ≡ true → runs L (state in_kind d) w ≡ Some (state in_kind d)
unfolding all_by
run_kind L d [] a = runs_none (step L) (state in_kind d)
run_kind L d (b ∷ w) a =
    let (h, t) = and_parts (text_byte b) _ a in
    runs-first L (state in_kind d) b w (Some (state in_kind d)) (cond-true _ _ _ h) ∙ run_kind L d w t
