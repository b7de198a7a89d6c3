-- A list from its items.
use Rattle.std.proofs.Common.{◌≡◌, ℕ, suc, ◌+◌, Bool, false, not, ◌||◌, List, [], ◌∷◌, ◌++◌, length, replicate, Some, None, Ok, Err, Result, sym, refl, ap, ◌∙◌, subst, inl, inr, append_assoc, arith}
use Rattle.std.proofs.lemmas.List.{get_or-replicate, get_or_past, length-replicate}
use Rattle.std.proofs.lemmas.Bool.{cases_lt}
use Rattle.refusals.specs.declared.Refusal.{Refusal}
use Rattle.declarations.specs.Names.{listed}
use Rattle.grammar.specs.declared.statement.Statement.TheVariants.{Feature}
use Rattle.grammar.specs.Trees.{Tree, Items, bare, described, none, item, written, more, LawfulItems}
use Rattle.grammar.specs.Told.{Told, index, say, mark, variable, tell, tell_items}
use Rattle.grammar.proofs.Indexed.{listed-none}
use Rattle.reading.specs.declared.notes.Notes.{Notes}
use Rattle.reading.specs.declared.reader.Closing.TheVariants.{More, Done}
use Rattle.reading.specs.declared.reader.Token.{Token}
use Rattle.reading.specs.declared.reader.heads.trees.Looked.{Looked}
use Rattle.reading.specs.Notes.{noted}
use Rattle.reading.specs.Reading.{Spans, ClosingRead, FeatureRead, TermRead, ListRead, Seen, LooksUp}
use Rattle.reading.proofs.Spanning.{spans_join}

-- no feature is marked at first
pub none_seen : (features : List (List ℕ)) (n : ℕ) → Seen features [] (replicate n false)
none_seen features n w h =
    elim (cases_lt (index w features) n) [
      | inl l ↦ get_or-replicate n (index w features) false false l
      | inr l ↦ get_or_past (replicate n false) (index w features) false (omega (arith, length-replicate n false))
    ]
    ∙ sym (listed-none w)

variable_marked : (u : Tree) (b : Bool) (p : ℕ) (t : Told) → variable u (mark b p t) ≡ variable u t
variable_marked (bare n) b p t = refl
variable_marked (described (Some n) k items) b p t = refl
variable_marked (described None k items) b p t = refl

module _ (features : List (List ℕ)) (line : List ℕ) (x : ℕ) (words : List (List ℕ)) (i d : ℕ) (n m1 m2 : Notes)
    (token : Token) (looked : Looked) (f : FeatureRead line (i + 1) (suc d) (Ok token)) (up : LooksUp features words token.text.now looked)
    (marked : noted line m1 ≡ mark looked.wrong (i + 1) (noted line n)) (e : ℕ)
    (g : TermRead features line (Some (record { variable = x; feature = looked.feature; place = i + 1 })) (i + 1 + length token.text.now + 2) (suc d) m1 m2 (Ok e)) where
  -- what the item adds
  item-told : (rest : Items) → tell_items features rest x (token.text.now ∷ words) e (noted line m2) ≡ tell_items features (item token.text.now g.0 rest) x words i (noted line n)
  unfolding tell
  item-told rest =
      let (u, lawful, spans, ended, told, room) = g in
      let v = token.text.now in
      let t = noted line n in
      let q = i + 1 + length v + 2 in
      let wrong = not (listed v features) || listed v words in
      let is : noted line m1 ≡ mark wrong (i + 1) t = marked ∙ ap (λ b. mark b (i + 1) t) up.1 in
      let value : noted line m2 ≡ tell features u q (say (Feature x (index v features) (variable u t)) (i + 1) (mark wrong (i + 1) t)) =
      told ∙ ap (λ s. tell features u q (say (Feature x looked.feature (variable u s)) (i + 1) s)) is
      ∙ ap (λ y. tell features u q (say (Feature x looked.feature y) (i + 1) (mark wrong (i + 1) t))) (variable_marked u wrong (i + 1) t)
      ∙ ap (λ k. tell features u q (say (Feature x k (variable u t)) (i + 1) (mark wrong (i + 1) t))) up.0 in
      ap (λ p. tell_items features rest x (v ∷ words) p (noted line m2)) (sym spans.end) ∙ ap (tell_items features rest x (v ∷ words) (q + length (written u))) value

  -- its bytes, with those that follow
  item-bytes : (j : ℕ) (tail : List ℕ) → Spans line e j tail → Spans line (i + 1) j (token.text.now ++ 61 ∷ 62 ∷ (written g.0 ++ tail))
  item-bytes j tail s =
      let (u, lawful, spans, ended, told, room) = g in
      subst (Spans line (i + 1) j) (append_assoc token.text.now (61 ∷ 62 ∷ []) (written u ++ tail)) (spans_join f.3 (spans_join spans s))

  pub done-read : ClosingRead line e d (Ok Done) → ListRead features line x words i d n m2 (Ok (e + 1))
  unfolding LawfulItems more tell
  done-read c =
      let (u, lawful, spans, ended, told, room) = g in (
        token.text.now,
        u,
        none,
        (f.0, f.1, lawful, tt),
        item-bytes (e + 1) (41 ∷ []) c.0,
        c.1,
        item-told none,
        (omega arith, omega arith),
      )

  pub more-read : ClosingRead line e d (Ok More) → (m3 : Notes) (r : Result ℕ Refusal) → ListRead features line x (token.text.now ∷ words) e d m2 m3 r → ListRead features line x words i d n m3 r
  unfolding LawfulItems more tell
  more-read c m3 (Ok j) h =
      let (u, lawful, spans, ended, told, room) = g in
      let (f2, u2, rest, items, inner, end, list, after) = h in (
        token.text.now,
        u,
        item f2 u2 rest,
        (f.0, f.1, lawful, items),
        item-bytes j (44 ∷ (f2 ++ 61 ∷ 62 ∷ (written u2 ++ more rest))) (spans_join c.0 inner),
        end,
        list ∙ item-told (item f2 u2 rest),
        after,
      )
  more-read c m3 (Err r) h = h
