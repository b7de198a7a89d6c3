-- Gathering the wider kinds that a line names.
use Rattle.std.proofs.Common.{◌≡◌, ℕ, ◌+◌, ◌-◌, ◌*◌, ◌%◌, ◌^◌, ◌<◌, ◌≤◌, Bool, true, false, ◌||◌, eqb, List, [], ◌∷◌, ◌++◌, length, take, drop, Ok, sym, refl, ap, ◌∙◌, subst, inl, inr, append_assoc, arith, length-append, length-drop}
use lib.Bits.{bit_or, or_lt}
use Rattle.std.specs.List.{AllByRecursion}
use Rattle.std.specs.Str.{bytes_eq}
use Rattle.std.proofs.lemmas.Nat.{pow_pos, pow_below, one_shl}
use Rattle.std.proofs.ByRecursion.{All-push}
use Rattle.std.proofs.lemmas.Slice.Eq.{bytes_eq-Decides}
use Rattle.std.proofs.lemmas.List.{append-nil, drop_at, take_at, drop-drop}
use Rattle.std.proofs.lemmas.Bool.{cases_eq, cases_Bool, eq-eqb, ne_eqb}
use Rattle.declarations.specs.Names.{is_name, listed}
use Rattle.declarations.specs.Declarations.{Declaration, name_of, sound}
use Rattle.declarations.specs.Lines.{tail, Known, Unknown, FirstUnknown}
use Rattle.declarations.specs.Rows.{bit}
use Rattle.declarations.proofs.Binary.{bit-none, bit-bit_or, bit-pow}
use Rattle.declarations.proofs.Sound.{listed_at, same_name}
use Rattle.kinds.specs.Model.{Gathers}

tail_push : (vs : List (List ℕ)) (w : List ℕ) → length (tail (vs ++ w ∷ [])) ≡ length (tail vs) + 1 + length w
unfolding tail
tail_push [] w = omega (arith, ap length (append-nil w))
tail_push (v ∷ vs) w = omega (arith, length-append v (tail vs), length-append v (tail (vs ++ w ∷ [])), tail_push vs w)

or_none : (b : Bool) → (b || false) ≡ b
or_none true = refl
or_none false = refl

or_assoc : (a b c : Bool) → (a || (b || c)) ≡ ((a || b) || c)
or_assoc true b c = refl
or_assoc false b c = refl

listed_push : (x : List ℕ) (vs : List (List ℕ)) (w : List ℕ) → listed x (vs ++ w ∷ []) ≡ (listed x vs || bytes_eq x w)
unfolding listed
listed_push x [] w = or_none (bytes_eq x w)
listed_push x (v ∷ vs) w = ap (λ b. bytes_eq x v || b) (listed_push x vs w) ∙ or_assoc (bytes_eq x v) (listed x vs) (bytes_eq x w)

-- a word is the name of one kind only
same_word : (ds : List Declaration) → sound ds ≡ true → (w : List ℕ) (k : ℕ) → k < length ds → name_of ds k ≡ w → (j : ℕ) → j < length ds → eqb j k ≡ bytes_eq (name_of ds j) w
same_word ds ok w k l named j h =
    elim (cases_eq j k) [
      | inl e ↦ eq-eqb j k e ∙ sym ((bytes_eq-Decides (name_of ds j) w).1 (ap (name_of ds) e ∙ named))
      | inr ne ↦
          elim (cases_Bool (bytes_eq (name_of ds j) w)) [
            | inl t ↦ absurd (ne (same_name ds ok j k h l ((bytes_eq-Decides (name_of ds j) w).0 t ∙ sym named)))
            | inr f ↦ ne_eqb j k ne ∙ sym f
          ]
    ]

-- after some of the words: those that are done are known and in the mask, and the rest of the line has the others
pub record Progress (ds : List Declaration) (at : ℕ) (ws : List (List ℕ)) (line : List ℕ) (end mask : ℕ) : Type 0 where
  pub done : List (List ℕ)
  pub more : List (List ℕ)
  pub split : ws ≡ done ++ more
  pub each : AllByRecursion (λ w. is_name w ≡ true) more
  pub rest : drop end line ≡ tail more
  pub place : end ≡ at + length (tail done)
  pub known : AllByRecursion (Known ds) done
  pub below : mask < 2 ^ length ds
  pub bits : (k : ℕ) → k < length ds → bit mask k ≡ listed (name_of ds k) done

pub starts : (ds : List Declaration) (at : ℕ) (ws : List (List ℕ)) (line : List ℕ) → AllByRecursion (λ w. is_name w ≡ true) ws → drop at line ≡ tail ws → Progress ds at ws line at 0
unfolding tail listed
starts ds at ws line a e =
    record {
      done = [];
      more = ws;
      split = refl;
      each = a;
      rest = e;
      place = omega arith;
      known = tt;
      below = pow_pos (length ds);
      bits = λ k l. bit-none k;
    }

-- the next word, where the line goes on
pub record Next (ds : List Declaration) (at : ℕ) (ws : List (List ℕ)) (line : List ℕ) (end mask : ℕ) (p : Progress ds at ws line end mask) : Type 0 where
  pub word : List ℕ
  pub others : List (List ℕ)
  pub is : p.more ≡ word ∷ others
  pub named : is_name word ≡ true
  pub each : AllByRecursion (λ w. is_name w ≡ true) others
  pub rest : drop (end + 1) line ≡ word ++ tail others

module _ (ds : List Declaration) (at : ℕ) (ws : List (List ℕ)) (line : List ℕ) (end mask : ℕ) (p : Progress ds at ws line end mask) where
  pub next_word : end < length line → Next ds at ws line end mask p
  unfolding tail
  next_word l = go p.more refl p.each p.rest
    where
      go : (more : List (List ℕ)) → p.more ≡ more → AllByRecursion (λ w. is_name w ≡ true) more → drop end line ≡ tail more → Next ds at ws line end mask p
      go [] e a r = absurd (omega (arith, length-drop end line, ap length r))
      go (w ∷ others) e a r =
          record {
            word = w;
            others = others;
            is = e;
            named = a.0;
            each = a.1;
            rest = sym (drop-drop 1 end line) ∙ ap (drop 1) r;
          }

  finishes : length line ≤ end → p.done ≡ ws
  unfolding tail
  finishes l = go p.more p.rest p.split
    where
      go : (more : List (List ℕ)) → drop end line ≡ tail more → ws ≡ p.done ++ more → p.done ≡ ws
      go [] r s = sym (s ∙ append-nil p.done)
      go (w ∷ others) r s = absurd (omega (arith, length-drop end line, ap length r))

  pub gathered : length line ≤ end → Gathers ds at ws (Ok mask)
  gathered l =
      let e = finishes l in
      (subst (AllByRecursion (Known ds)) e p.known, p.below, λ k h. p.bits k h ∙ ap (listed (name_of ds k)) e)

  module _ (n : Next ds at ws line end mask p) where
    pub word_is : (stop : ℕ) → stop ≡ end + 1 + length n.word → take (stop - (end + 1)) (drop (end + 1) line) ≡ n.word
    word_is stop e =
        let k : length n.word ≡ stop - (end + 1) = omega arith in
        ap (take (stop - (end + 1))) n.rest ∙ take_at n.word (tail n.others) (stop - (end + 1)) k

    pub first-unknown : Unknown ds n.word → FirstUnknown ds at ws (end + 1)
    first-unknown u =
        record {
          done = p.done;
          word = n.word;
          more = n.others;
          split = p.split ∙ ap (λ x. p.done ++ x) n.is;
          known = p.known;
          unknown = u;
          place = ap (λ x. x + 1) p.place;
        }

    pub advances : sound ds ≡ true → length ds ≤ 64 → (stop k : ℕ) → stop ≡ end + 1 + length n.word → k < length ds → name_of ds k ≡ n.word → Progress ds at ws line stop (bit_or mask ((1 * 2 ^ k) % 2 ^ 64))
    advances ok few stop k e l named =
        let shift : (1 * 2 ^ k) % 2 ^ 64 ≡ 2 ^ k = one_shl k 64 (omega arith) in
        rw shift (record {
          done = p.done ++ n.word ∷ [];
          more = n.others;
          split = p.split ∙ ap (λ x. p.done ++ x) n.is ∙ sym (append_assoc p.done (n.word ∷ []) n.others);
          each = n.each;
          rest = ap (λ x. drop x line) e ∙ sym (drop-drop (length n.word) (end + 1) line) ∙ ap (drop (length n.word)) n.rest ∙ drop_at n.word (tail n.others) (length n.word) refl;
          place = omega (arith, tail_push p.done n.word, p.place);
          known = All-push (Known ds) p.done n.word p.known (subst (Known ds) named (listed_at ds k l));
          below = or_lt (length ds) mask (2 ^ k) p.below (pow_below k (length ds) l);
          bits = λ j h. bit-bit_or mask (2 ^ k) j ∙ cc (p.bits j h, bit-pow k j, same_word ds ok n.word k l named j h, listed_push (name_of ds j) p.done n.word);
        })
