use Rattle.std.proofs.Common.{◌≡◌, ◌^◌, ◌<◌, [], ◌∷◌, map, length, sym, ap, ◌∙◌, subst, arith, length-append, true}
use Rattle.std.proofs.lemmas.List.{length-map}
use Rattle.std.proofs.lemmas.Nat.{pow_below}
use Rattle.declarations.specs.Declarations.{sound}
use Rattle.declarations.specs.Rows.{rows_of}
use Rattle.kinds.specs.Stored.{declaration, with_new}
use Rattle.kinds.proofs.Added.{declared_push, sound_added, rows_added}
use Rattle.kinds.proofs.table.Table.add.Goals as goal

pub invariant_of-self : goal.invariant_of-self
invariant_of-self c =
    let s = c.args.self.now in
    let kind = c.args.kind.now in
    let kinds = s.kinds.items in
    let size = length-map kinds declaration in
    let is = c.put_kind.ensures in
    let small : kind.wider < 2 ^ 64 = omega (arith, c.requires.wider, pow_below _ 64 c.requires.room) in
    record {
      few = omega (arith, ap length is, length-append (map (with_new kind) kinds) (kind ∷ []), length-map kinds (with_new kind), size, c.requires.room);
      sound = subst (λ ks. sound (map declaration ks) ≡ true) (sym is) (sound_added kind kinds s.sound c.requires.follows);
      right =
          subst (λ ks. map (λ k. k.row) ks ≡ rows_of (map declaration ks)) (sym is)
          (rows_added kind kinds (c.requires.row ∙ ap (λ n. 2 ^ n) size) small s.right);
    }

pub returns-clause-after : goal.returns-clause-after
returns-clause-after c =
    let kind = c.args.kind.now in
    let is = c.put_kind.ensures in
    ap (map declaration) is ∙ declared_push kind c.args.self.now.kinds.items
