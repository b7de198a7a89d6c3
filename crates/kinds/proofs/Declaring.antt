-- Declaring a line: which refusal it has, or what it declares.
use Rattle.std.proofs.Common.{◌≡◌, ℕ, ◌<◌, ◌≤◌, true, List, [], ◌∷◌, ◌++◌, length, get_or, take, drop, Some, Ok, Err, filter, sym, refl, ap, ◌∙◌, subst, inl, inr, arith}
use Rattle.std.specs.List.{range_with_len, AllByRecursion}
use Rattle.std.specs.Str.{bytes_eq}
use Rattle.std.proofs.lemmas.Slice.Eq.{bytes_eq-Decides}
use Rattle.std.proofs.lemmas.List.{take-append-drop, take_at, drop_at, get_or-take, get_or_at, length-take-le}
use Rattle.std.proofs.lemmas.Bool.{and_from, or_left, not_from_false, cases_lt}
use Rattle.refusals.specs.declared.Refusal.{Refusal}
use Rattle.refusals.specs.declared.Refusal.TheVariants.{Grammar}
use Rattle.refusals.specs.Table.{row}
use Rattle.declarations.specs.declared.name.Name.{Name}
use Rattle.declarations.specs.Held.{name_bytes, Holds}
use Rattle.declarations.specs.Names.{is_name, listed}
use Rattle.declarations.specs.Declarations.{Declaration, name_of, follows, all_below}
use Rattle.declarations.specs.Lines.{tail, Line, Breaks, LongName, TooMuch, Known, Unknown, FirstUnknown, numbers, Accepts, Refuses}
use Rattle.declarations.specs.Rows.{bit, members}
use Rattle.declarations.proofs.Sound.{listed_is}
use Rattle.declarations.proofs.Words.{name-some, name_at, blank_apart}
use Rattle.refusals.proofs.Broken.{breaks-apart}
use Rattle.kinds.specs.declared.table.Kind.{Kind}
use Rattle.kinds.specs.Model.{Gathers}
use Rattle.kinds.specs.Stored.{declaration}
use Rattle.kinds.proofs.Members.{members_below, members-some, members_few, kept_same}

module _ (line : List ℕ) (end : ℕ) (within : end ≤ length line)
    (name : 0 < end → is_name (take end line) ≡ true)
    (most : (w rest : List ℕ) → is_name w ≡ true → line ≡ w ++ rest → length w ≤ end) where
  end-length : length (take end line) ≡ end
  end-length = length-take-le end line within

  pub long-name : 24 < length (take end line) → LongName line
  long-name l =
      record {
        name = take end line;
        rest = drop end line;
        named = name (omega (arith, end-length));
        long = l;
        whole = sym (take-append-drop end line);
      }

  short_name : length (take end line) ≤ 24 → LongName line → ⊥
  short_name s l = omega (arith, end-length, most l.name l.rest l.named l.whole, l.long)

  -- no reason of the first kind
  pub not_much : (ds : List Declaration) → length line ≤ 1000 → length (take end line) ≤ 24 → (Line line → length ds < 64) → TooMuch 64 ds line → ⊥
  not_much ds l s f (inl h) = omega arith
  not_much ds l s f (inr (inl h)) = short_name s h
  not_much ds l s f (inr (inr h)) = omega (arith, f h.0, h.1)

  module _ (l : Line line) where
    first_blank : get_or line (length l.name) 0 ≡ 32
    unfolding tail
    first_blank = go l.wider l.some l.whole
      where
        go : (ws : List (List ℕ)) → 0 < length ws → line ≡ l.name ++ tail ws → get_or line (length l.name) 0 ≡ 32
        go [] some e = absurd (omega arith)
        go (w ∷ ws) some e = ap (λ b. get_or b (length l.name) 0) e ∙ get_or_at l.name 32 (w ++ tail ws) 0 (length l.name) refl

    -- the longest name is the line's first word
    pub end_is : end ≡ length l.name
    end_is =
        elim (cases_lt (length l.name) end) [
          | inl h ↦
              let n = name-some l.name l.named in
              let b = name_at (take end line) (length l.name) (name (omega arith)) (omega (arith, end-length)) in
              absurd (blank_apart _ b (get_or-take end line (length l.name) 0 h ∙ first_blank))
          | inr h ↦ omega (arith, most l.name (tail l.wider) l.named l.whole)
        ]

    pub name_is : take end line ≡ l.name
    name_is = ap (take end) l.whole ∙ take_at l.name (tail l.wider) end (sym end_is)

    pub wider_is : drop end line ≡ tail l.wider
    wider_is = ap (drop end) l.whole ∙ drop_at l.name (tail l.wider) end (sym end_is)

first-listed : (x w : List ℕ) (ws : List (List ℕ)) → x ≡ w → listed x (w ∷ ws) ≡ true
unfolding listed
first-listed x w ws e = or_left (bytes_eq x w) _ ((bytes_eq-Decides x w).1 e)

-- what an accepted line declares may follow the kinds before it
module _ (ds : List Declaration) (n : ℕ) (size : length ds ≡ n) (ws : List (List ℕ)) (some : 0 < length ws) (mask at : ℕ) (g : Gathers ds at ws (Ok mask)) where
  first-known : (w : ℕ) × (w < n) × (bit mask w ≡ true)
  first-known = go ws some g.0 g.2
    where
      go : (ws : List (List ℕ)) → 0 < length ws → AllByRecursion (Known ds) ws → ((k : ℕ) → k < length ds → bit mask k ≡ listed (name_of ds k) ws) → (w : ℕ) × (w < n) × (bit mask w ≡ true)
      go [] s a b = absurd (omega arith)
      go (w ∷ ws) s a b =
          let (k, l, e) = listed_is ds w a.0 in
          (k, omega arith, b k l ∙ first-listed (name_of ds k) w ws e)

  pub may_follow : (name : List ℕ) → is_name name ≡ true → Unknown ds name → follows ds (record { name = name; wider = members n mask }) ≡ true
  may_follow name named fresh =
      let (k, l, b) = first-known in
      and_from _ _ named (and_from _ _ (not_from_false _ fresh) (and_from _ _ (members-some n mask k l b) (subst (λ m. all_below m (members n mask) ≡ true) (sym size) (members_below n mask))))

  pub numbers_is : members n mask ≡ numbers ds ws
  numbers_is =
      kept_same (bit mask) (λ k. listed (name_of ds k) ws) 0 n (λ k _ l. g.2 k (omega arith))
      ∙ ap (λ m. filter (λ k. listed (name_of ds k) ws) (range_with_len 0 m)) (sym size)

-- what is known once the line's first word is held
pub record Begun (line : List ℕ) (end : ℕ) : Type 0 where
  pub fits : length line ≤ 1000
  pub within : end ≤ length line
  pub name : 0 < end → is_name (take end line) ≡ true
  pub most : (w rest : List ℕ) → is_name w ≡ true → line ≡ w ++ rest → length w ≤ end
  pub short : length (take end line) ≤ 24

pub begins : (line : List ℕ) (end : ℕ) → length line ≤ 1000 → end ≤ length line → (0 < end → is_name (take end line) ≡ true) → ((w rest : List ℕ) → is_name w ≡ true → line ≡ w ++ rest → length w ≤ end) → (n : Name) → Holds (take end line) (Some n) → Begun line end
begins line end fits within name most n held =
    record {
      fits = fits;
      within = within;
      name = name;
      most = most;
      short = held.0;
    }

module _ (ds : List Declaration) (line : List ℕ) (end : ℕ) (b : Begun line end) where
  pub refuses_grammar : (p : ℕ) → Breaks line p → Refuses 64 ds line (Grammar p)
  refuses_grammar p h =
      inr (inl (not_much line end b.within b.name b.most ds b.fits b.short (λ l. absurd (breaks-apart Line line p h l)), (p, h, refl)))

  module _ (l : Line line) (room : length ds < 64) where
    not_much_here : TooMuch 64 ds line → ⊥
    not_much_here = not_much line end b.within b.name b.most ds b.fits b.short (λ _. room)

    first_word : take end line ≡ l.name
    first_word = name_is line end b.within b.name b.most l

    pub refuses_known : (e : Refusal) → Known ds (take end line) → row e ≡ record { number = 3; values = 0 ∷ [] } → Refuses 64 ds line e
    refuses_known e k is = inr (inr (not_much_here, (l, 0, inl (subst (Known ds) first_word k, refl), is)))

    pub rest-words : drop end line ≡ tail l.wider
    rest-words = wider_is line end b.within b.name b.most l

    pub refuses_unknown : (e : Refusal) → Unknown ds (take end line) → Gathers ds end l.wider (Err e) → Refuses 64 ds line e
    refuses_unknown e u g =
        let (p, f, is) = g in
        let at : end ≡ length l.name = end_is line end b.within b.name b.most l in
        inr (inr (not_much_here, (l, p, inr (subst (Unknown ds) first_word u, subst (λ x. FirstUnknown ds x l.wider p) at f), is)))

    -- what an accepted line declares, as a kind in memory
    module _ (kind : Kind) (g : Gathers ds end l.wider (Ok kind.wider)) (u : Unknown ds (take end line)) (name : name_bytes kind.name ≡ take end line) where
      same_wider : members 64 kind.wider ≡ members (length ds) kind.wider
      same_wider = members_few (length ds) kind.wider g.1 (omega arith)

      pub line_follows : follows ds (declaration kind) ≡ true
      line_follows =
          subst (λ ks. follows ds (record { name = name_bytes kind.name; wider = ks }) ≡ true) (sym same_wider)
          (may_follow ds (length ds) refl l.wider l.some kind.wider end g (name_bytes kind.name) (ap is_name (name ∙ first_word) ∙ l.named) (subst (Unknown ds) (sym name) u))

      pub line_accepted : Accepts 64 ds line (declaration kind)
      line_accepted =
          record {
            words = l;
            within = not_much_here;
            fresh = subst (Unknown ds) first_word u;
            known = g.0;
            name = name ∙ first_word;
            wider = same_wider ∙ numbers_is ds (length ds) refl l.wider l.some kind.wider end g;
          }
