use Rattle.std.proofs.Common.{◌<◌, ◌≤◌, map, length, sym, vec_items, refl, ap, subst, arith}
use Rattle.std.proofs.lemmas.Bool.{both_ways, ltb-true, ltb-false}
use Rattle.refusals.specs.declared.Refusal.TheVariants.{Kind, Memory}
use Rattle.std.proofs.lemmas.List.{length-map}
use Rattle.reading.specs.Notes.{said_in}
use Rattle.grammar.specs.Lines.{WrongKind}
use Rattle.grammar.specs.Only.{OnlyReads}
use Rattle.terms.specs.Kinds.{Readable}
use Rattle.grammar.proofs.OnlyKinds.{only_reads}
use Rattle.grammar.proofs.SameKinds.{same_length}
use Rattle.terms.proofs.Finishing.{refused_kind, refused_memory, accepted, lawful-read, few_read, settled, settled_refusal}
use Rattle.terms.proofs.term.kinds.finish.Goals as goal

pub returns-in-Err : goal.returns-in-Err
returns-in-Err g c =
    let m = g.O.WrittenOrder.texts c.args.order.now in
    let n = c.args.features in
    let room = c.args.term.now.room in
    let notes = c.args.notes.now in
    let line = c.args.line.now in
    let (p, wrong, is) = c.in-Err.ensures in
    let w = subst (λ ss. WrongKind m (map (said_in line) ss) p) c.as_slice-noted.ensures.value wrong in
    rw is (record {
      answer = λ F f. refused_kind m F n line notes f room p w;
      fixed = λ F f. settled_refusal m F n line notes f room (Kind p) _ (refused_kind m F n line notes f room p w);
      kept = λ k. refl;
      few = λ k. absurd (both_ways _ refl k);
      fields = (refl, λ k. absurd (both_ways _ refl k));
    })

pub returns-then-is_short : goal.returns-then-is_short
returns-then-is_short g c =
    let m = g.O.WrittenOrder.texts c.args.order.now in
    let n = c.args.features in
    let room = c.args.term.now.room in
    let notes = c.args.notes.now in
    let line = c.args.line.now in
    let (us, o) = subst (λ ss. Readable m (map (said_in line) ss)) c.as_slice-noted.ensures.value c.in_default.ensures in
    let over : room < length us = omega (arith, same_length m _ us (only_reads m _ us o), length-map notes.said.items (said_in line), ap length c.as_slice-noted.ensures.value, ltb-true _ _ (sym c.if-is_short.ensures)) in
    record {
      answer = λ F f. refused_memory m F n line notes f us o room over;
      fixed = λ F f. settled_refusal m F n line notes f room Memory _ (refused_memory m F n line notes f us o room over);
      kept = λ k. refl;
      few = λ k. absurd (both_ways _ refl k);
      fields = (refl, λ k. absurd (both_ways _ refl k));
    }

pub invariant_of-term : goal.invariant_of-term
invariant_of-term g c =
    let m = g.O.WrittenOrder.texts c.args.order.now in
    let t = c.args.term.now in
    let notes = c.args.notes.now in
    let line = c.args.line.now in
    let rows = c.fill.new.rows in
    let us = vec_items rows in
    let o = subst (λ ss. OnlyReads m (map (said_in line) ss) us) c.as_slice-noted.ensures.value c.fill.ensures.read in
    let (F, f) = c.requires in
    let (short, few) = few_read m F c.args.features line notes f us o in
    let fits : rows.len ≤ t.room = omega (arith, same_length m _ us (only_reads m _ us o), length-map notes.said.items (said_in line), ap length c.as_slice-noted.ensures.value, rows.ok.0, ltb-false _ _ (sym c.if-is_short.ensures)) in
    record {
      lawful = lawful-read m F c.args.features line notes f us o;
      deep = c.fill.ensures.deep;
      few = omega (arith, few, ap length c.fill.ensures.deep);
      short = short;
      within = fits;
      held = omega (arith, c.fill.ensures.capacity.0, t.held);
      spare = omega (arith, c.fill.ensures.capacity.1, t.spare);
    }

pub returns : goal.returns
returns g c =
    let m = g.O.WrittenOrder.texts c.args.order.now in
    let n = c.args.features in
    let room = c.args.term.now.room in
    let notes = c.args.notes.now in
    let line = c.args.line.now in
    let us = vec_items c.fill.new.rows in
    let o = subst (λ ss. OnlyReads m (map (said_in line) ss) us) c.as_slice-noted.ensures.value c.fill.ensures.read in
    let fits : length us ≤ room = omega (arith, same_length m _ us (only_reads m _ us o), length-map notes.said.items (said_in line), ap length c.as_slice-noted.ensures.value, ltb-false _ _ (sym c.if-is_short.ensures)) in
    record {
      answer = λ F f. accepted m F n line notes f us o room fits;
      fixed = λ F f. settled m F n line notes f us o room fits;
      kept = λ k. absurd (both_ways _ refl k);
      few = λ k. few_read m c.requires.0 n line notes c.requires.1 us o;
      fields = (refl, λ k. refl);
    }
