use Rattle.std.proofs.Common.{◌≡◌, ℕ, Bool, not, ◌&&◌, ap, ◌∙◌, sym, refl}
use Rattle.p8_view.specs.declared.turns.ViewOptions.{ViewOptions}
use Rattle.p8_view.specs.View.{is_asked, is_loaded, loading}
use Rattle.p8_view.proofs.Showing.{told_shown}
use Rattle.p8_view.proofs.turns.Showing.shows.Goals as goal

asked : (options : ViewOptions) (clock cog : ℕ) (asks same other : Bool) → asks ≡ is_asked options clock cog (not same) → same ≡ other → asks ≡ is_asked options clock cog (not other)
asked options clock cog asks same other is e = is ∙ ap (λ (b : Bool). is_asked options clock cog (not b)) e

pub returns-then-asks_for : goal.returns-then-asks_for
returns-then-asks_for c = λ past left before after.
    ap (λ (asked : Bool). asked && not c.is_loaded.result) (sym c.if-asks_for.true)
    ∙ told_shown c.args.self.now.options.now past c.args.turn.now _ _ _ _ _ before after left (asked c.args.self.now.options.now c.args.turn.now.key.clock c.args.turn.now.key.cog _ _ _ c.asks_for.ensures c.are_same-changes.ensures) c.is_loaded.ensures

pub returns-else-asks_for : goal.returns-else-asks_for
returns-else-asks_for c = λ past left before after.
    c.if-asks_for.false
    ∙ ap (λ (asked : Bool). asked && not (is_loaded c.args.turn.now.access (loading past c.args.turn.now.key.cog))) (sym c.if-asks_for.false)
    ∙ told_shown c.args.self.now.options.now past c.args.turn.now _ _ _ _ _ before after refl (asked c.args.self.now.options.now c.args.turn.now.key.clock c.args.turn.now.key.cog _ _ _ c.asks_for.ensures c.are_same-changes.ensures) refl
