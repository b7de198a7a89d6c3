-- Drafts and closed lists by their declarations: the order of a list, its texts, and closing.
use Rattle.std.specs.Prelude.{◌≡◌, ℕ, ◌≤◌, true, List, [], ◌∷◌, length, Ok, Err, Result}
use Rattle.std.proofs.Common.{sym, subst}
use Rattle.std.proofs.lemmas.List.{length-map}
use Rattle.orders.specs.Meaning.{Meaning}
use Rattle.orders.specs.Texts.{Texts}
use Rattle.refusals.specs.declared.Refusal.{Refusal}
use Rattle.refusals.specs.Table.{row}
use Rattle.declarations.specs.Declarations.{Declaration, NoWidest, First}
use Rattle.declarations.specs.Rows.{rows_of, closed}
use Rattle.declarations.proofs.Ordered.{order_of}
use Rattle.declarations.proofs.Named.{texts_of}
use Rattle.kinds.specs.declared.draft.Draft.{Draft}
use Rattle.kinds.specs.declared.list.List as closed_list
use Rattle.kinds.specs.Stored.{declaration}
use Rattle.kinds.specs.Model.{kinds_of}

-- a closed list
abbrev pub Closing : Type 0
Closing = closed_list.List

abbrev pub drafted : Draft → List Declaration
drafted d = kinds_of d.table

abbrev pub listing : closed_list.List → List Declaration
listing l = kinds_of l.table

pub few_kinds : (l : closed_list.List) → length (listing l) ≤ 64
few_kinds l = subst (λ n. n ≤ 64) (sym (length-map l.table.kinds.items declaration)) l.table.few

pub closed_rows : (l : closed_list.List) → closed 64 (rows_of (listing l)) ≡ true
closed_rows l = subst (λ rows. closed 64 rows ≡ true) l.table.right l.closed

-- a list's meaning: `Under` of its declarations, over every number
abbrev pub list_order : closed_list.List → Meaning ℕ
list_order l = order_of 64 (listing l) l.table.sound (few_kinds l) (closed_rows l)

-- a list's texts: the names of its kinds
abbrev pub list_texts : closed_list.List → Texts ℕ
list_texts l = texts_of (listing l) l.table.sound

-- closing: the list has the draft's kinds, of which no two lack a widest kind under both;
-- or it is left as it was, refused with 5 and the first pair that does
abbrev pub Closes : List Declaration → closed_list.List → closed_list.List → Result (Unit {0}) Refusal → Type 0
Closes ds before after (Ok _) = (listing after ≡ ds) × ((a b : ℕ) → NoWidest ds a b → ⊥)
Closes ds before after (Err e) =
    ((a : ℕ) × (b : ℕ) × First ds a b × (row e ≡ record { number = 5; values = a ∷ b ∷ [] })) × (after ≡ before)
