-- What is kept of an input, and that it is answered as the whole input is.
use Rattle.std.proofs.Common.{◌≡◌, ℕ, ◌<◌, List, [], ◌++◌, length, take, Err, Result, Some, None, Option, sym, subst, inl, inr, arith}
use Rattle.std.specs.Prelude.{IfSome}
use Rattle.std.specs.Option.{option_map}
use Rattle.std.specs.declared.io.traits.Take.{Take}
use Rattle.std.specs.Io.Take.{take_limit, take_inner, take_remaining}
use Rattle.std.proofs.lemmas.Bool.{cases_lt, cond-true, lt-ltb}
use Rattle.std.proofs.lemmas.List.{take_all, length-take-le}
use Rattle.refusals.specs.declared.Refusal.{Refusal}
use Rattle.refusals.specs.declared.Refusal.TheVariants.{Limit}
use Rattle.orders.specs.Meaning.{Meaning}
use Rattle.orders.specs.Texts.{Texts}
use Rattle.kinds.specs.Lists.{Closing}
use Rattle.files.specs.Lines.{Then}
use Rattle.files.specs.Files.{Contents, File, short}
use Rattle.answering.specs.Answers.{Answers}

first_bytes : (n : ℕ) (o : Option (List ℕ)) (read : List ℕ) → IfSome (option_map (take n) o) (λ bytes. read ≡ bytes) → IfSome o (λ bytes. read ≡ take n bytes)
first_bytes n (Some bytes) read e = e
first_bytes n None read e = tt

pub first_read : {R : Type 0} (remaining : R → Option (List ℕ)) (t : Take R) (input : R) (before read : List ℕ) → take_limit t ≡ 60001 → take_inner t ≡ input → before ≡ []
    → IfSome (take_remaining remaining t) (λ bytes. read ≡ before ++ bytes) → IfSome (remaining input) (λ bytes. read ≡ take 60001 bytes)
first_read remaining t input before read limit inner none e = first_bytes 60001 (remaining input) read (rw (limit, inner, none) at e)

then_refused : {A B : Type 0} (o : Result A Refusal) (e : Refusal) (Next : A → Type 0) (r : Result B Refusal) → o ≡ Err e → Then o Next r → r ≡ Err e
then_refused o e Next r is h = subst (λ o. Then o Next r) is h

refused_then : {A B : Type 0} (o : Result A Refusal) (e : Refusal) (Next : A → Type 0) (r : Result B Refusal) → o ≡ Err e → r ≡ Err e → Then o Next r
refused_then o e Next r is h = subst (λ o. Then o Next r) (sym is) h

is_long : (file : List ℕ) → 60000 < length file → short file ≡ Err (Limit 0)
is_long file l = cond-true _ _ _ (lt-ltb 60000 (length file) l)

module _ {K : Type 0} (texts : Closing → Texts K) where
  -- of a file that is too long nothing but its length counts
  long_file : (file other : List ℕ) → 60000 < length file → 60000 < length other → (r : Result (Contents K) Refusal) → File texts file r → File texts other r
  long_file file other l m r f = refused_then (short other) (Limit 0) _ r (is_long other m) (then_refused (short file) (Limit 0) _ r (is_long file l) f)

  kept : (bytes : List ℕ) (r : Result (Contents K) Refusal) → File texts (take 60001 bytes) r → File texts bytes r
  kept bytes r f =
      elim (cases_lt 60000 (length bytes)) [
        | inl l ↦ long_file (take 60001 bytes) bytes (omega (arith, length-take-le 60001 bytes (omega (arith, l)))) l r f
        | inr l ↦ subst (λ file. File texts file r) (take_all 60001 bytes (omega (arith, l))) f
      ]

  -- what is kept of an input is answered as the input is
  pub whole : (meaning : Closing → Meaning K) (o : Option (List ℕ)) (file text : List ℕ) → IfSome o (λ bytes. file ≡ take 60001 bytes) → Answers meaning texts file text
      → IfSome o (λ bytes. Answers meaning texts bytes text)
  whole meaning (Some bytes) file text is (r, f, e) = (r, kept bytes r (subst (λ file. File texts file r) is f), e)
  whole meaning None file text is a = tt
