use Rattle.std.proofs.Common.{◌∙◌, ◌-◌, inl, sym, arith}
use Rattle.p8_lexer.specs.declared.token.TokenKind.TheVariants.{Symbol}
use Rattle.p8_lexer.proofs.Cuts.{no_long_symbol, symbol_cut, no_piece, one_shorter, cut_is}
use Rattle.p8_lexer.proofs.cut.symbol.Goals as goal

pub lengths-init : goal.lengths-init
lengths-init c =
    record {
      within = omega arith;
      past = λ s m above within is. no_long_symbol c.args.text.now s m (omega arith) within is;
    }

pub returns-in-Some : goal.returns-in-Some
returns-in-Some c =
    let text = c.args.text.now in
    let n = c.lengths.length in
    let s = c.in-Some.number in
    let found = c.in-Some.ensures in
    cut_is text (Symbol s) n c.token.result c.token.ensures (symbol_cut text n s c.requires.only c.lengths.invariant.within c.lengths.invariant.past (found.0, found.1, sym c.first.ensures ∙ found.2)) tt

pub lengths-preserved : goal.lengths-preserved
lengths-preserved c =
    record {
      within = omega arith;
      past = one_shorter c.args.text.now c.lengths.length _ c.lengths.invariant.within (λ _. c.lengths.length - 1) (omega arith) c.lengths.invariant.past (λ s w at e. c.in-None.ensures s w at (c.first.ensures ∙ e));
    }

pub returns : goal.returns
returns c =
    let text = c.args.text.now in
    inl (c.requires.within, no_piece text c.requires.only (λ s m above within is. c.lengths.invariant.past s m (omega arith) within is), c.requires.brace, c.requires.quote, c.requires.percent)
