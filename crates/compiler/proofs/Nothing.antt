-- No statement: the term of a bare name.
use Rattle.std.proofs.Common.{◌≡◌, ℕ, true, List, [], ◌∷◌, ◌++◌, length, sym, refl, ap, ◌∙◌}
use Rattle.grammar.specs.declared.statement.Statement.{Statement}
use Rattle.grammar.specs.Lawful.{lawful, lawful_from, depths, depths_from}
use Rattle.instructions.specs.declared.instruction.Instruction.{Instruction}
use Rattle.instructions.specs.declared.instruction.Instruction.TheVariants.{PushCell}
use Rattle.instructions.specs.Codes.{Compiling, beginning, kinds, closes, entry_from, read_from, write_from, entry_code, read_code, write_code}

no_kinds : (K : Type 0) → kinds {K = K} [] ≡ []
unfolding kinds
no_kinds K = refl

one_variable : (K : Type 0) → length (depths {K = K} []) ≡ 1
unfolding depths_from
one_variable K = refl

always_lawful : (K : Type 0) (n : ℕ) → lawful {K = K} n [] ≡ true
unfolding lawful_from
always_lawful K n = refl

no_code : (K : Type 0) (c : Compiling) → entry_from {K = K} c [] ≡ []
unfolding entry_from
no_code K c = refl

no_reads : (K : Type 0) (c : Compiling) → read_from {K = K} c [] ≡ []
unfolding read_from
no_reads K c = refl

no_writes : (K : Type 0) → write_code {K = K} [] ≡ []
unfolding write_from closes
no_writes K = refl

module _ {K : Type 0} where
  pub lawful-none : (n : ℕ) (ss : List (Statement K)) → ss ≡ [] → lawful n ss ≡ true
  lawful-none n ss e = ap (lawful n) e ∙ always_lawful K n

  pub kinds-none : (ss : List (Statement K)) (ks : List K) → ss ≡ [] → ks ≡ [] → ks ≡ kinds ss
  kinds-none ss ks e n = n ∙ sym (ap kinds e ∙ no_kinds K)

  pub depths-none : (ss : List (Statement K)) → ss ≡ [] → 1 ≡ length (depths ss)
  depths-none ss e = sym (ap (λ ts. length (depths ts)) e ∙ one_variable K)

  pub entry-none : (ss : List (Statement K)) (none code : List Instruction) → ss ≡ [] → none ≡ [] → code ≡ none ++ PushCell 0 ∷ [] → code ≡ entry_code ss
  entry-none ss none code e n pushed = pushed ∙ ap (λ is. is ++ PushCell 0 ∷ []) n ∙ sym (ap entry_code e ∙ ap (λ is. PushCell 0 ∷ is) (no_code K beginning))

  pub reads-none : (ss : List (Statement K)) (code : List Instruction) → ss ≡ [] → code ≡ [] → code ≡ read_code ss
  reads-none ss code e n = n ∙ sym (ap read_code e ∙ no_reads K beginning)

  pub writes-none : (ss : List (Statement K)) (code : List Instruction) → ss ≡ [] → code ≡ [] → code ≡ write_code ss
  writes-none ss code e n = n ∙ sym (ap write_code e ∙ no_writes K)
