-- The five rules of an order, for the bands.
use Rattle.std.specs.Prelude.{◌≡◌, true, false, cond, ◌&&◌, ◌||◌, ℤ, ◌≤ℤ◌, Some, None, ◌≢◌, int_le, refl}
use Rattle.std.proofs.Common.{sym, ap, ◌∙◌, inl, inr, arith}
use Rattle.std.specs.Int.{int_max, int_min}
use Rattle.std.proofs.lemmas.Int.{ints, clamps}
use Rattle.std.proofs.lemmas.Bool.{and_parts, and_from, and_cases, or_cases, or_parts, cond_both, false≢true}
use Rattle.orders.specs.Meaning.{IsWidest, IsCommon}
use Rattle.bands.specs.declared.band.Band.{Band}
use Rattle.bands.specs.Bands.{widest, is_band, IsBand, Under, equal, same, meet, common}

-- ---- kinds by their ends

pub same_ends : (a b : Band) → a.low ≡ b.low → a.high ≡ b.high → a ≡ b
same_ends a b e f =
    let low : a ≡ record { low = b.low; high = a.high } = ap (λ (x : ℤ). record { low = x; high = a.high }) e in
    low ∙ ap (λ (y : ℤ). record { low = b.low; high = y }) f

test_le : (x y : ℤ) → x ≤ℤ y → int_le x y ≡ true
test_le x y h = let t : true ≡ int_le x y = omega (arith, ints) in sym t

pub equal_true : (x y : ℤ) → equal x y ≡ true → x ≡ y
equal_true x y h = let p = and_parts (int_le x y) (int_le y x) h in omega (arith, ints)

pub equal_itself : (x : ℤ) → equal x x ≡ true
equal_itself x = and_from (int_le x x) (int_le x x) (test_le x x (omega (arith, ints))) (test_le x x (omega (arith, ints)))

pub same_true : (a b : Band) → same a b ≡ true → a ≡ b
same_true a b h =
    let p = and_parts (equal a.low b.low) (equal a.high b.high) h in
    same_ends a b (equal_true _ _ p.0) (equal_true _ _ p.1)

pub same_itself : (a b : Band) → a ≡ b → same a b ≡ true
same_itself a b e = rw e (and_from _ _ (equal_itself b.low) (equal_itself b.high))

pub same_false : (a b : Band) → same a b ≡ false → a ≢ b
same_false a b h e = false≢true (sym h ∙ same_itself a b e)

-- the ends of a band
pub record Ends (b : Band) : Type 0 where
  pub from : widest.low ≤ℤ b.low
  pub order : b.low ≤ℤ b.high
  pub to : b.high ≤ℤ widest.high

pub ends : (b : Band) → IsBand b → Ends b
ends b h =
    let p = and_parts (int_le widest.low b.low) _ h in
    let q = and_parts (int_le b.low b.high) _ p.1 in
    record { from = omega (arith, ints); order = omega (arith, ints); to = omega (arith, ints) }

pub from_ends : (b : Band) → Ends b → IsBand b
from_ends b e = and_from _ _ (test_le _ _ e.from) (and_from _ _ (test_le _ _ e.order) (test_le _ _ e.to))

-- ---- the rules

pub itself : (k : Band) → Under k k
itself k = inl refl

pub widest_is : IsWidest Under widest
widest_is k = inr (inl refl)

-- nothing but the widest is about the widest
about_widest : (l m : Band) → l ≡ widest → IsBand m → m.low ≤ℤ l.low → l.high ≤ℤ m.high → m ≡ widest
about_widest l m e h p q =
    let n = ends m h in
    let f : l.low ≡ widest.low = ap (λ (b : Band). b.low) e in
    let g : l.high ≡ widest.high = ap (λ (b : Band). b.high) e in
    same_ends m widest (omega (arith, ints)) (omega (arith, ints))

pub through : (k l m : Band) → Under k l → Under l m → Under k m
through k l m (inl e) q = rw e q
through k l m (inr p) (inl e) = rw (sym e) (inr p)
through k l m (inr p) (inr (inl e)) = inr (inl e)
through k l m (inr (inl e)) (inr (inr q)) = inr (inl (about_widest l m e q.1 q.2 q.3))
through k l m (inr (inr p)) (inr (inr q)) = inr (inr (p.0, q.1, omega (arith, ints), omega (arith, ints)))

pub both_ways : (k l : Band) → Under k l → Under l k → k ≡ l
both_ways k l (inl e) q = e
both_ways k l (inr p) (inl e) = sym e
both_ways k l (inr (inl e)) (inr (inl f)) = f ∙ sym e
both_ways k l (inr (inl e)) (inr (inr q)) = about_widest l k e q.1 q.2 q.3 ∙ sym e
both_ways k l (inr (inr p)) (inr (inl f)) = f ∙ sym (about_widest k l f p.1 p.2 p.3)
both_ways k l (inr (inr p)) (inr (inr q)) = same_ends k l (omega (arith, ints)) (omega (arith, ints))

-- ---- the common kind

lesser : (a b : Band) → Under a b → IsCommon Under a b (Some a)
lesser a b h = (itself a, h, λ k p q. p)

greater : (a b : Band) → Under b a → IsCommon Under a b (Some b)
greater a b h = (h, itself b, λ k p q. q)

-- what is under a band that is not the widest lies within it
within : (k a : Band) → IsBand a → (a ≢ widest) → Under k a → IsBand k × (a.low ≤ℤ k.low) × (k.high ≤ℤ a.high)
within k a h n (inl e) = rw e (h, omega (arith, ints), omega (arith, ints))
within k a h n (inr (inl e)) = absurd (n e)
within k a h n (inr (inr p)) = (p.0, p.2, p.3)

-- nothing but itself is under what is no band
alone : (k a : Band) → is_band a ≡ false → Under k a → (a ≢ widest) → k ≡ a
alone k a h (inl e) n = e
alone k a h (inr (inl e)) n = absurd (n e)
alone k a h (inr (inr p)) n = absurd (false≢true (sym h ∙ p.1))

meet_is : (a b : Band) → IsBand a → IsBand b → (a ≢ widest) → (b ≢ widest) → IsCommon Under a b (meet a b)
meet_is a b h i n o =
    let low = int_max a.low b.low in
    let high = int_min a.high b.high in
    let c : Band = record { low = low; high = high } in
    let ea = ends a h in
    let eb = ends b i in
    cond_both (int_le low high) (Some c) None (IsCommon Under a b)
    (λ t.
    let m : IsBand c = from_ends c (record { from = omega (arith, ints, clamps); order = omega (arith, ints); to = omega (arith, ints, clamps) }) in (
      inr (inr (m, h, omega (arith, ints, clamps), omega (arith, ints, clamps))),
      inr (inr (m, i, omega (arith, ints, clamps), omega (arith, ints, clamps))),
      λ k p q.
          let x = within k a h n p in
          let y = within k b i o q in
          inr (inr (x.0, m, omega (arith, ints, clamps), omega (arith, ints, clamps))),
    ))
    (λ f k p q.
    let x = within k a h n p in
    let y = within k b i o q in
    let e = ends k x.0 in
    omega (arith, ints, clamps))

none_is : (a b : Band) → is_band a ≡ false → (a ≢ b) → (a ≢ widest) → (b ≢ widest) → (k : Band) → Under k a → Under k b → ⊥
none_is a b h d n o k p (inl f) = d (sym (alone k a h p n) ∙ f)
none_is a b h d n o k p (inr (inl f)) = o f
none_is a b h d n o k p (inr (inr q)) = false≢true (sym h ∙ rw (sym (alone k a h p n)) q.0)

rest_is : (a b : Band) → (a ≢ b) → (a ≢ widest) → (b ≢ widest) → IsCommon Under a b (cond (is_band a && is_band b) (meet a b) None)
rest_is a b d n o =
    cond_both (is_band a && is_band b) (meet a b) None (IsCommon Under a b)
    (λ t. let p = and_parts (is_band a) (is_band b) t in meet_is a b p.0 p.1 n o)
    (λ f k p q.
    elim (and_cases (is_band a) (is_band b) f) [
      | inl h ↦ none_is a b h d n o k p q
      | inr h ↦ none_is b a h (λ e. d (sym e)) o n k q p
    ])

pub common_is : (a b : Band) → IsCommon Under a b (common a b)
common_is a b =
    cond_both (same a b || same b widest) _ _ (IsCommon Under a b)
    (λ t. elim (or_cases (same a b) (same b widest) t) [
      | inl e ↦ lesser a b (inl (same_true a b e))
      | inr e ↦ lesser a b (inr (inl (same_true b widest e)))
    ])
    (λ f.
    let p = or_parts (same a b) (same b widest) f in
    cond_both (same a widest) _ _ (IsCommon Under a b)
    (λ t. greater a b (inr (inl (same_true a widest t))))
    (λ g. rest_is a b (same_false a b p.0) (same_false a widest g) (same_false b widest p.1)))
