-- The marks of a line, and the bytes that they are.
use Rattle.std.proofs.Common.{◌≡◌, ℕ, ◌<◌, ◌≤◌, Bool, true, false, cond, eqb, ltb, List, length, get_or, Some, None, Option, sym, refl, ap, ◌∙◌, inl, inr, arith}
use Rattle.std.proofs.lemmas.Bool.{cases_Bool, cond-true, cond-false, eqb-true, ltb-true, lt-ltb}
use Rattle.std.proofs.lemmas.Option.{none-some}
use Rattle.reading.specs.declared.reader.Mark.{Mark}
use Rattle.reading.specs.declared.reader.Mark.TheVariants.{Open, Close, Comma, Colon, Equals, Greater, Other}
use Rattle.reading.specs.Reading.{byte_at, mark_of}

abbrev code : Mark → Option ℕ
code Open = Some 40
code Close = Some 41
code Comma = Some 44
code Colon = Some 58
code Equals = Some 61
code Greater = Some 62
code Other = None

-- one of two ways, at a test that is known
chosen : {X : Type 0} (b : Bool) (x y m : X) (P : Type 0) → cond b x y ≡ m → (b ≡ true → x ≡ m → P) → (b ≡ false → y ≡ m → P) → P
chosen b x y m P e yes_way no_way =
    elim (cases_Bool b) [
      | inl t ↦ yes_way t (sym (cond-true b x y t) ∙ e)
      | inr f ↦ no_way f (sym (cond-false b x y f) ∙ e)
    ]

coded : (x n b : ℕ) (k m : Mark) → eqb x n ≡ true → k ≡ m → code k ≡ Some n → code m ≡ Some b → ◌≡◌ {A = Option ℕ} (Some x) (Some b)
coded x n b k m t e c d = ap Some (eqb-true x n t) ∙ sym c ∙ ap code e ∙ d

pub mark_byte : (o : Option ℕ) (m : Mark) (b : ℕ) → mark_of o ≡ m → code m ≡ Some b → o ≡ Some b
mark_byte None m b e c = ap code e ∙ c
mark_byte (Some x) m b e c =
    chosen (eqb x 40) _ _ m _ e (λ t q. coded x 40 b Open m t q refl c) (λ _ e1.
    chosen (eqb x 41) _ _ m _ e1 (λ t q. coded x 41 b Close m t q refl c) (λ _ e2.
    chosen (eqb x 44) _ _ m _ e2 (λ t q. coded x 44 b Comma m t q refl c) (λ _ e3.
    chosen (eqb x 58) _ _ m _ e3 (λ t q. coded x 58 b Colon m t q refl c) (λ _ e4.
    chosen (eqb x 61) _ _ m _ e4 (λ t q. coded x 61 b Equals m t q refl c) (λ _ e5.
    chosen (eqb x 62) _ _ m _ e5 (λ t q. coded x 62 b Greater m t q refl c) (λ _ e6.
    absurd (let z : ◌≡◌ {A = ℕ} 0 1 = cc (ap code e6 ∙ c) in omega arith)))))))

pub byte_here : (line : List ℕ) (i b : ℕ) → byte_at line i ≡ Some b → (i < length line) × (get_or line i 0 ≡ b)
byte_here line i b e =
    elim (cases_Bool (ltb i (length line))) [
      | inl t ↦
          let q : ◌≡◌ {A = Option ℕ} (Some (get_or line i 0)) (Some b) = sym (cond-true _ _ _ t) ∙ e in
          (ltb-true i (length line) t, cc)
      | inr f ↦ absurd (none-some b (sym (cond-false _ _ _ f) ∙ e))
    ]

pub byte_within : (line : List ℕ) (i : ℕ) → i < length line → byte_at line i ≡ Some (get_or line i 0)
byte_within line i l = cond-true _ _ _ (lt-ltb i (length line) l)

pub byte_none : (line : List ℕ) (i : ℕ) → byte_at line i ≡ None → length line ≤ i
byte_none line i e =
    elim (cases_Bool (ltb i (length line))) [
      | inl t ↦ absurd (none-some _ (sym e ∙ cond-true _ _ _ t))
      | inr f ↦ omega (arith, Rattle.std.proofs.lemmas.Bool.ltb-false i (length line) f)
    ]

-- the mark is there, and its byte
pub mark-here : (line : List ℕ) (i : ℕ) (m : Mark) (b : ℕ) → mark_of (byte_at line i) ≡ m → code m ≡ Some b → (i < length line) × (get_or line i 0 ≡ b)
mark-here line i m b e c = byte_here line i b (mark_byte (byte_at line i) m b e c)

-- a byte that is not the mark's
pub mark_not : (line : List ℕ) (i : ℕ) (m : Mark) (b : ℕ) → (mark_of (byte_at line i) ≡ m → ⊥) → mark_of (Some b) ≡ m → i < length line → eqb (get_or line i 0) b ≡ false
mark_not line i m b ne is l =
    elim (cases_Bool (eqb (get_or line i 0) b)) [
      | inl t ↦ absurd (ne (ap mark_of (byte_within line i l ∙ ap Some (eqb-true _ b t)) ∙ is))
      | inr f ↦ f
    ]
