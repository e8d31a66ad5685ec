use Rattle.std.proofs.Common.{◌≡◌, Some, refl, ap, ◌∙◌, sym, arith}
use Rattle.std.specs.Prelude.{max}
use Rattle.p8_tree.specs.Expressions.{Register, bits, single, range}
use Rattle.p8_tree.specs.Views.{tree_of, item_of}
use Rattle.p8_grammar.specs.Lexemes.{right_bracket}
use Rattle.p8_grammar.specs.Heights.{height, height_of_item}
use Rattle.p8_grammar.specs.Machine.{part, stays}
use Rattle.p8_grammar.specs.Views.{access_of}
use Rattle.p8_expr.specs.declared.form.Hole.TheVariants as hole
use Rattle.p8_expr.specs.declared.form.Stage.TheVariants as stage
use Rattle.p8_expr.specs.Views.{use_of}
use Rattle.p8_expr.proofs.HoleRows.{stays_row, no_bracket}
use Rattle.p8_expr.proofs.form.Form.at_bracket.Goals as goal

pub returns-in_default-clause-comes : goal.returns-in_default-clause-comes
returns-in_default-clause-comes c =
    let d = c.in_default in (
      no_bracket c.args.hole c.args.self.now.parts (tree_of c.args.tree.value) d.not-NameIndex d.not-PartIndex d.not-MemoryAddress d.not-MemoryIndex d.not-FirstBit d.not-LastBit d.not-TrappedIndex,
      refl,
    )

pub returns-in-PartIndex : goal.returns-in-PartIndex
returns-in-PartIndex c =
    let a = c.in-PartIndex in
    let f = c.args.self.now in
    let p = f.parts in
    let e = tree_of c.args.tree.value in
    let t = c.stays-in-PartIndex in
    let r = stays_row right_bracket c.args.hole hole.PartIndex f t.new.self e a.is t.result (stage.PartIndexed c.args.tree) t.ensures (refl) (omega arith) in
    record { comes = r.0; tall = r.1 }

pub returns-in-MemoryAddress : goal.returns-in-MemoryAddress
returns-in-MemoryAddress c =
    let a = c.in-MemoryAddress in
    let f = c.args.self.now in
    let p = f.parts in
    let e = tree_of c.args.tree.value in
    let t = c.stays-in-MemoryAddress in
    let r = stays_row right_bracket c.args.hole hole.MemoryAddress f t.new.self e a.is t.result (stage.Memory c.args.tree) t.ensures (refl) (omega arith) in
    record { comes = r.0; tall = r.1 }

pub returns-in-MemoryIndex : goal.returns-in-MemoryIndex
returns-in-MemoryIndex c =
    let a = c.in-MemoryIndex in
    let f = c.args.self.now in
    let p = f.parts in
    let e = tree_of c.args.tree.value in
    let t = c.stays-in-MemoryIndex in
    let r = stays_row right_bracket c.args.hole (hole.MemoryIndex a.address) f t.new.self e a.is t.result (stage.MemoryIndexed a.address c.args.tree) t.ensures (refl) (omega arith) in
    record { comes = r.0; tall = r.1 }

pub returns-in_ok-bits-in-FirstBit : goal.returns-in_ok-bits-in-FirstBit
returns-in_ok-bits-in-FirstBit c =
    let a = c.in-FirstBit in
    let f = c.args.self.now in
    let p = f.parts in
    let e = tree_of c.args.tree.value in
    let t = c.stays-in-FirstBit in
    let b = c.in_ok-bits-in-FirstBit.bits in
    let same : item_of b.value ≡ single e = ap item_of c.in_ok-bits-in-FirstBit.ensures.ok ∙ c.alone.ensures in
    let zero : height e ≡ max 0 (height e) = omega arith in
    let r = stays_row right_bracket c.args.hole hole.FirstBit f t.new.self e a.is t.result (stage.Bits b) t.ensures (ap (λ i. Some (stays (part (use_of p.usage) (Register p.register (bits i) p.place) (access_of p.access)))) (sym same)) (ap height_of_item same ∙ zero) in
    record { comes = r.0; tall = r.1 }

pub returns-in_ok-bits-in-LastBit : goal.returns-in_ok-bits-in-LastBit
returns-in_ok-bits-in-LastBit c =
    let a = c.in-LastBit in
    let f = c.args.self.now in
    let p = f.parts in
    let e = tree_of c.args.tree.value in
    let t = c.stays-in-LastBit in
    let b = c.in_ok-bits-in-LastBit.bits in
    let same : item_of b.value ≡ range (tree_of a.low.value) e = ap item_of c.in_ok-bits-in-LastBit.ensures.ok ∙ c.ranged.ensures in
    let r = stays_row right_bracket c.args.hole (hole.LastBit a.low) f t.new.self e a.is t.result (stage.Bits b) t.ensures (ap (λ i. Some (stays (part (use_of p.usage) (Register p.register (bits i) p.place) (access_of p.access)))) (sym same)) (ap height_of_item same) in
    record { comes = r.0; tall = r.1 }

pub returns-in-TrappedIndex : goal.returns-in-TrappedIndex
returns-in-TrappedIndex c =
    let a = c.in-TrappedIndex in
    let f = c.args.self.now in
    let p = f.parts in
    let e = tree_of c.args.tree.value in
    let t = c.stays-in-TrappedIndex in
    let r = stays_row right_bracket c.args.hole hole.TrappedIndex f t.new.self e a.is t.result (stage.TrappedElement c.args.tree) t.ensures (refl) (omega arith) in
    record { comes = r.0; tall = r.1 }
