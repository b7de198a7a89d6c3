-- A line is the writing of one lawful tree at most.
use Rattle.std.proofs.Common.{◌≡◌, ℕ, suc, Bool, true, false, ◌⊎◌, List, [], ◌∷◌, ◌++◌, Some, None, Option, sym, refl, ap, ◌∙◌, inl, inr, arith}
use Rattle.std.proofs.lemmas.List.{append_assoc, append-nil}
use Rattle.std.proofs.lemmas.Bool.{and_parts, and_from, or_left, both_ways}
use Rattle.declarations.specs.Names.{letter, name_byte}
use Rattle.orders.specs.Texts.{text_byte}
use Rattle.grammar.specs.Words.{capital, name_letter, all_by, is_word, is_variable, is_feature, is_text}
use Rattle.grammar.specs.Trees.{Tree, Items, bare, described, none, item, label, written, listing, more, Limits, no_limits, LawfulLabel, LawfulTree, LawfulList, LawfulItems}
use Rattle.grammar.proofs.Walking.{capital-apart}

-- the bytes do not begin with one of a class
abbrev Apart : (ℕ → Bool) → List ℕ → Type 0
Apart p [] = Unit {0}
Apart p (b ∷ bs) = p b ≡ false

-- the bytes begin with nothing, or with what ends an item
abbrev Stops : List ℕ → Type 0
Stops [] = Unit {0}
Stops (b ∷ bs) = (b ≡ 44) ⊎ (b ≡ 41)

same_first : (a b : ℕ) (r s : List ℕ) → a ∷ r ≡ b ∷ s → (a ≡ b) × (r ≡ s)
same_first a b r s e = (cc, cc)

same_word : (p : ℕ → Bool) (w v r s : List ℕ) → all_by p w ≡ true → all_by p v ≡ true → Apart p r → Apart p s → w ++ r ≡ v ++ s → (w ≡ v) × (r ≡ s)
unfolding all_by
same_word p [] [] r s a b x y e = (refl, e)
same_word p [] (c ∷ v) [] s a b x y e = let z : ◌≡◌ {A = ℕ} 0 1 = cc in absurd (omega arith)
same_word p [] (c ∷ v) (d ∷ r) s a b x y e =
    absurd (both_ways (p d) x (ap p (same_first d c r (v ++ s) e).0 ∙ (and_parts (p c) _ b).0))
same_word p (c ∷ w) [] r [] a b x y e = let z : ◌≡◌ {A = ℕ} 0 1 = cc in absurd (omega arith)
same_word p (c ∷ w) [] r (d ∷ s) a b x y e =
    absurd (both_ways (p d) y (ap p (sym (same_first c d (w ++ r) s e).0) ∙ (and_parts (p c) _ a).0))
same_word p (c ∷ w) (d ∷ v) r s a b x y e =
    let (h, t) = same_first c d (w ++ r) (v ++ s) e in
    let (k, l) = same_word p w v r s (and_parts (p c) _ a).1 (and_parts (p d) _ b).1 x y t in
    (ap (λ z. z ∷ w) h ∙ ap (λ z. d ∷ z) k, l)

-- all bytes of a word are of the class of the later ones
all-word : (p q : ℕ → Bool) → ((b : ℕ) → p b ≡ true → q b ≡ true) → (w : List ℕ) → is_word p q w ≡ true → all_by q w ≡ true
unfolding all_by
all-word p q h [] v = absurd (both_ways false refl v)
all-word p q h (b ∷ w) v = let (f, a) = and_parts (p b) _ v in and_from _ _ (h b f) a

all-variable : (w : List ℕ) → is_variable w ≡ true → all_by name_letter w ≡ true
all-variable = all-word capital name_letter (λ b h. or_left (capital b) _ h)

all_feature : (w : List ℕ) → is_feature w ≡ true → all_by name_byte w ≡ true
all_feature = all-word letter name_byte (λ b h. or_left (letter b) _ h)

all-text : (w : List ℕ) → is_text w ≡ true → all_by text_byte w ≡ true
all-text = all-word text_byte text_byte (λ b h. h)

stops-apart : (p : ℕ → Bool) → p 44 ≡ false → p 41 ≡ false → (r : List ℕ) → Stops r → Apart p r
stops-apart p x y [] s = tt
stops-apart p x y (b ∷ r) (inl e) = ap p e ∙ x
stops-apart p x y (b ∷ r) (inr e) = ap p e ∙ y

stops_not : (b : ℕ) (r : List ℕ) → (b ≡ 44 → ⊥) → (b ≡ 41 → ⊥) → (c : List ℕ) → Stops c → c ≡ b ∷ r → ⊥
stops_not b r x y [] s e = let z : ◌≡◌ {A = ℕ} 0 1 = cc in omega arith
stops_not b r x y (c ∷ cs) (inl h) e = x (sym (same_first c b cs r e).0 ∙ h)
stops_not b r x y (c ∷ cs) (inr h) e = y (sym (same_first c b cs r e).0 ∙ h)

-- a list, or what stops
listing-apart : (items : Items) (r : List ℕ) → Stops r → Apart text_byte (listing items ++ r)
unfolding written
listing-apart none r s = stops-apart text_byte refl refl r s
listing-apart (item f t rest) r s = refl

more-stops : (rest : Items) (r : List ℕ) → Stops (more rest ++ r)
unfolding written
more-stops none r = inr refl
more-stops (item f t rest) r = inl refl

-- a name and a text begin differently
name_text : (n k r s : List ℕ) → is_variable n ≡ true → is_text k ≡ true → n ++ r ≡ k ++ s → ⊥
name_text [] k r s v t e = both_ways false refl v
name_text (b ∷ n) [] r s v t e = both_ways false refl t
name_text (b ∷ n) (c ∷ k) r s v t e =
    let low : capital b ≡ false = ap capital (same_first b c (n ++ r) (k ++ s) e).0 ∙ capital-apart c (and_parts (text_byte c) _ t).0 in
    both_ways (capital b) low (and_parts (capital b) _ v).0

same_name : (n m r s : List ℕ) → is_variable n ≡ true → is_variable m ≡ true → Apart name_letter r → Apart name_letter s
    → n ++ r ≡ m ++ s → (n ≡ m) × (r ≡ s)
same_name n m r s v w x y e = same_word name_letter n m r s (all-variable n v) (all-variable m w) x y e

same_text : (k l r s : List ℕ) → is_text k ≡ true → is_text l ≡ true → Apart text_byte r → Apart text_byte s → k ++ r ≡ l ++ s → (k ≡ l) × (r ≡ s)
same_text k l r s v w x y e = same_word text_byte k l r s (all-text k v) (all-text l w) x y e

head_first : (o : Option (List ℕ)) (k x r : List ℕ) → (label o ++ (k ++ x)) ++ r ≡ label o ++ (k ++ (x ++ r))
head_first o k x r = simp append_assoc

item-first : (f x y r : List ℕ) → (f ++ 61 ∷ 62 ∷ (x ++ y)) ++ r ≡ f ++ 61 ∷ 62 ∷ (x ++ (y ++ r))
item-first f x y r = simp append_assoc

module _ (L : Limits) where
  -- a name is no description
  name_no_head : (n r : List ℕ) (o : Option (List ℕ)) (k s : List ℕ) → is_variable n ≡ true → Stops r → LawfulLabel L o
      → is_text k ≡ true → n ++ r ≡ label o ++ (k ++ s) → ⊥
  name_no_head n r (Some m) k s v x l t e =
      stops_not 58 (k ++ s) (λ h. omega arith) (λ h. omega arith) r x
      (same_name n m r (58 ∷ (k ++ s)) v l.0 (stops-apart name_letter refl refl r x) refl (e ∙ append_assoc m (58 ∷ []) (k ++ s))).1
  name_no_head n r None k s v x l t e = name_text n k r s v t e

  same_head : (o u : Option (List ℕ)) (k l r s : List ℕ) → LawfulLabel L o → LawfulLabel L u → is_text k ≡ true → is_text l ≡ true
      → Apart text_byte r → Apart text_byte s → label o ++ (k ++ r) ≡ label u ++ (l ++ s) → (o ≡ u) × (k ≡ l) × (r ≡ s)
  same_head (Some n) (Some m) k l r s a b v w x y e =
      let at : n ++ 58 ∷ (k ++ r) ≡ m ++ 58 ∷ (l ++ s) = sym (append_assoc n (58 ∷ []) (k ++ r)) ∙ e ∙ append_assoc m (58 ∷ []) (l ++ s) in
      let (h, t) = same_name n m _ _ a.0 b.0 refl refl at in
      let (f, g) = same_text k l r s v w x y (same_first 58 58 (k ++ r) (l ++ s) t).1 in
      (ap Some h, f, g)
  same_head (Some n) None k l r s a b v w x y e =
      absurd (name_text n l (58 ∷ (k ++ r)) s a.0 w (sym (append_assoc n (58 ∷ []) (k ++ r)) ∙ e))
  same_head None (Some m) k l r s a b v w x y e =
      absurd (name_text m k (58 ∷ (l ++ s)) r b.0 v (sym (append_assoc m (58 ∷ []) (l ++ s)) ∙ sym e))
  same_head None None k l r s a b v w x y e = let (f, g) = same_text k l r s v w x y e in (refl, f, g)

  -- a feature with its arrow
  same_feature : (f g r s : List ℕ) → is_feature f ≡ true → is_feature g ≡ true → f ++ 61 ∷ 62 ∷ r ≡ g ++ 61 ∷ 62 ∷ s → (f ≡ g) × (r ≡ s)
  same_feature f g r s v w e =
      let (h, t) = same_word name_byte f g (61 ∷ 62 ∷ r) (61 ∷ 62 ∷ s) (all_feature f v) (all_feature g w) refl refl e in
      (h, (same_first 62 62 r s (same_first 61 61 (62 ∷ r) (62 ∷ s) t).1).1)

  mutual
    unfolding written LawfulTree

    same-tree : (d : ℕ) (t u : Tree) (r s : List ℕ) → LawfulTree L d t → LawfulTree L d u → Stops r → Stops s
        → written t ++ r ≡ written u ++ s → (t ≡ u) × (r ≡ s)
    same-tree d (bare n) (bare m) r s a b x y e =
        let (h, t) = same_name n m r s a.0 b.0 (stops-apart name_letter refl refl r x) (stops-apart name_letter refl refl s y) e in
        (ap bare h, t)
    same-tree d (bare n) (described o k items) r s a b x y e =
        absurd (name_no_head n r o k (listing items ++ s) a.0 x b.0 b.1 (e ∙ head_first o k (listing items) s))
    same-tree d (described o k items) (bare n) r s a b x y e =
        absurd (name_no_head n s o k (listing items ++ r) b.0 y a.0 a.1 (sym e ∙ head_first o k (listing items) r))
    same-tree d (described o k items) (described p l others) r s a b x y e =
        let (h, f, t) = same_head o p k l (listing items ++ r) (listing others ++ s) a.0 b.0 a.1 b.1
        (listing-apart items r x) (listing-apart others s y) (sym (head_first o k (listing items) r) ∙ e ∙ head_first p l (listing others) s) in
        let (i, out) = same-listing d items others r s a.2 b.2 x y t in
        (cc, out)

    same-listing : (d : ℕ) (items others : Items) (r s : List ℕ) → LawfulList L d items → LawfulList L d others → Stops r → Stops s
        → listing items ++ r ≡ listing others ++ s → (items ≡ others) × (r ≡ s)
    same-listing d none none r s a b x y e = (refl, e)
    same-listing d none (item f t rest) r s a b x y e = absurd (stops_not 40 _ (λ h. omega arith) (λ h. omega arith) r x e)
    same-listing d (item f t rest) none r s a b x y e = absurd (stops_not 40 _ (λ h. omega arith) (λ h. omega arith) s y (sym e))
    same-listing d (item f t rest) (item g u others) r s a b x y e =
        let (h, at) = same_feature f g _ _ a.1 b.1
        (sym (item-first f (written t) (more rest) r) ∙ (same_first 40 40 _ _ e).1 ∙ item-first g (written u) (more others) s) in
        let (i, so) = same-tree (suc d) t u (more rest ++ r) (more others ++ s) a.3 b.3 (more-stops rest r) (more-stops others s) at in
        let (j, out) = same_more (suc d) rest others r s a.4 b.4 so in
        (cc, out)

    same_more : (d : ℕ) (rest others : Items) (r s : List ℕ) → LawfulItems L d rest → LawfulItems L d others
        → more rest ++ r ≡ more others ++ s → (rest ≡ others) × (r ≡ s)
    same_more d none none r s a b e = (refl, (same_first 41 41 r s e).1)
    same_more d none (item g u others) r s a b e = let z = (same_first 41 44 _ _ e).0 in absurd (omega arith)
    same_more d (item f t rest) none r s a b e = let z = (same_first 44 41 _ _ e).0 in absurd (omega arith)
    same_more d (item f t rest) (item g u others) r s a b e =
        let (h, at) = same_feature f g _ _ a.0 b.0
        (sym (item-first f (written t) (more rest) r) ∙ (same_first 44 44 _ _ e).1 ∙ item-first g (written u) (more others) s) in
        let (i, so) = same-tree d t u (more rest ++ r) (more others ++ s) a.2 b.2 (more-stops rest r) (more-stops others s) at in
        let (j, out) = same_more d rest others r s a.3 b.3 so in
        (cc, out)

pub one_tree : (t u : Tree) → LawfulTree no_limits 0 t → LawfulTree no_limits 0 u → written t ≡ written u → t ≡ u
one_tree t u a b e = (same-tree no_limits 0 t u [] [] a b tt tt (append-nil (written t) ∙ e ∙ sym (append-nil (written u)))).0
