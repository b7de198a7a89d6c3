-- The codes of a rule, as they are written: what is there and what is to come make up the whole.
use Rattle.std.proofs.Common.{◌≡◌, ℕ, ◌+◌, ◌<◌, ◌≤◌, true, List, [], ◌∷◌, ◌++◌, length, get_or, drop, append_assoc, append-nil, length-append, sym, refl, ap, ◌∙◌, arith, subst}
use Rattle.std.proofs.lemmas.List.{drop_all, length_push}
use Rattle.grammar.specs.declared.statement.Statement.{Statement}
use Rattle.grammar.specs.Lawful.{Open, root, after, lawful_from, lawful, depths}
use Rattle.instructions.specs.declared.instruction.Instruction.{Instruction}
use Rattle.instructions.specs.Codes.{Compiling, beginning, subject, closes, ends_before, told_by_rule, read, opened, next, read_from, write_from, read_code, write_code}
use Rattle.instructions.proofs.Agreeing.{Agrees, agrees_root, agrees_next}
use Rattle.compiler.specs.declared.codes.Pass.{Pass}
use Rattle.compiler.specs.Passing.{Counts, Goes, Known}
use Rattle.compiler.proofs.Onward.{Here, here_first, here_next, left_more}
use Rattle.compiler.proofs.RuleLengths.{lawful_parts}
use Rattle.compiler.proofs.Depths.{known}

pub record Matching {K : Type 0} (n : ℕ) (ss rest : List (Statement K)) (i : ℕ) (p : Pass) (depth : ℕ) (reads writes : List Instruction) : Type 0 where
  pub at : Compiling
  pub unclosed : Open
  pub here : Here ss rest i p at
  pub goes : Goes p depth reads writes at
  pub agrees : Agrees unclosed at
  pub lawful_rest : lawful_from n unclosed rest ≡ true
  pub reads_whole : reads ++ read_from at rest ≡ read_code ss
  pub writes_whole : writes ++ write_from at rest ≡ write_code ss

module _ {K : Type 0} (n : ℕ) (ss : List (Statement K)) where
  pub matching_first : (p : Pass) (reads writes : List Instruction) → lawful n ss ≡ true → p.met ≡ 1 → p.kinds ≡ 0 → reads ≡ [] → writes ≡ [] →
      Matching n ss ss 0 p 0 reads writes
  matching_first p reads writes l m k r w =
      record {
        at = beginning;
        unclosed = root;
        here = here_first ss p m k;
        goes = record { counts = (m, k); deep = refl; reads_are = ap length r; writes_are = ap length w };
        agrees = agrees_root;
        lawful_rest = l;
        reads_whole = ap (λ is. is ++ read_from beginning ss) r;
        writes_whole = ap (λ is. is ++ write_from beginning ss) w;
      }

  module _ (rest : List (Statement K)) (s : Statement K) (i : ℕ) (p : Pass) (depth : ℕ) (reads writes : List Instruction)
      (h : Matching n ss (s ∷ rest) i p depth reads writes) where
    read_split : reads ++ read h.at s ∷ read_from (next h.at s) rest ≡ read_code ss
    unfolding read_from
    read_split = h.reads_whole

    write_split : writes ++ (ends_before h.at (subject s) ++ (told_by_rule h.at s ++ write_from (next h.at s) rest)) ≡ write_code ss
    unfolding write_from
    write_split = h.writes_whole

    pub matching_known : Known (depths ss) h.at s
    matching_known =
        known h.at (depths ss) rest n h.unclosed s h.agrees ((lawful_parts n h.unclosed s rest h.lawful_rest).0) h.here.depths_rest

    pub matching_fits : (k m : ℕ) → length (read_code ss) ≤ k → length (write_code ss) ≤ m →
        (length reads < k) × (length writes + length (ends_before h.at (subject s)) + length (told_by_rule h.at s) ≤ m)
    matching_fits k m r w = (
      omega (arith, ap length read_split, length-append reads (read h.at s ∷ read_from (next h.at s) rest)),
      omega (
        arith,
        ap length write_split,
        length-append writes (ends_before h.at (subject s) ++ (told_by_rule h.at s ++ write_from (next h.at s) rest)),
        length-append (ends_before h.at (subject s)) (told_by_rule h.at s ++ write_from (next h.at s) rest),
        length-append (told_by_rule h.at s) (write_from (next h.at s) rest),
      ),
    )

    pub matching_next : (q : Pass) (deep : ℕ) (new_reads new_writes : List Instruction) → Counts q (next h.at s) → deep ≡ opened h.at s →
        new_reads ≡ reads ++ read h.at s ∷ [] → new_writes ≡ (writes ++ ends_before h.at (subject s)) ++ told_by_rule h.at s →
        Matching n ss rest (i + 1) q deep new_reads new_writes
    matching_next q deep new_reads new_writes k d r w =
        let (may, lawful_then) = lawful_parts n h.unclosed s rest h.lawful_rest in
        let last = write_from (next h.at s) rest in
        record {
          at = next h.at s;
          unclosed = after s h.unclosed;
          here = here_next ss rest s i p q h.at h.here k;
          goes =
              record {
                counts = k;
                deep = d;
                reads_are = omega (arith, ap length r, length_push reads (read h.at s), h.goes.reads_are);
                writes_are =
                    omega (
                      arith,
                      ap length w,
                      length-append (writes ++ ends_before h.at (subject s)) (told_by_rule h.at s),
                      length-append writes (ends_before h.at (subject s)),
                      h.goes.writes_are,
                    );
              };
          agrees = agrees_next n h.unclosed h.at h.agrees s may;
          lawful_rest = lawful_then;
          reads_whole =
              ap (λ is. is ++ read_from (next h.at s) rest) r
              ∙ append_assoc reads (read h.at s ∷ []) (read_from (next h.at s) rest) ∙ read_split;
          writes_whole =
              ap (λ is. is ++ last) w
              ∙ append_assoc (writes ++ ends_before h.at (subject s)) (told_by_rule h.at s) last
              ∙ append_assoc writes (ends_before h.at (subject s)) (told_by_rule h.at s ++ last) ∙ write_split;
        }

  pub matching_now : (s : Statement K) (i : ℕ) (p : Pass) (depth : ℕ) (reads writes : List Instruction) → i < length ss → s ≡ get_or ss i s →
      Matching n ss (drop i ss) i p depth reads writes → Matching n ss (s ∷ drop (i + 1) ss) i p depth reads writes
  matching_now s i p depth reads writes l e h = subst (λ rest. Matching n ss rest i p depth reads writes) (left_more ss s i l e) h

  -- at the end what is still open ends
  module _ (i : ℕ) (p : Pass) (depth : ℕ) (reads writes : List Instruction) (l : length ss ≤ i) (h : Matching n ss (drop i ss) i p depth reads writes) where
    done : Matching n ss [] i p depth reads writes
    done = subst (λ rest. Matching n ss rest i p depth reads writes) (drop_all i ss l) h

    pub reads_last : reads ≡ read_code ss
    unfolding read_from
    reads_last = sym (append-nil reads) ∙ done.reads_whole

    all_closed : writes ++ closes depth 0 (length reads) ≡ write_code ss
    unfolding write_from
    all_closed =
        ap (λ d. writes ++ closes d 0 (length reads)) done.goes.deep ∙ ap (λ k. writes ++ closes done.at.depth 0 k) done.goes.reads_are ∙ done.writes_whole

    -- the label is as many as there are instructions that read
    module _ (label : ℕ) (same : label ≡ length reads) where
      closed_by : writes ++ closes depth 0 label ≡ write_code ss
      closed_by = ap (λ k. writes ++ closes depth 0 k) same ∙ all_closed

      pub writes_last : (new : List Instruction) → new ≡ writes ++ closes depth 0 label → new ≡ write_code ss
      writes_last new e = e ∙ closed_by

      pub writes_last_fit : (m : ℕ) → length (write_code ss) ≤ m → length writes + length (closes depth 0 label) ≤ m
      writes_last_fit m w = omega (arith, ap length closed_by, length-append writes (closes depth 0 label))
