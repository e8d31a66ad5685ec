use Rattle.std.proofs.Common.{◌≡◌, [], ◌∷◌, ◌++◌, refl, sym, ap, subst, ◌∙◌, arith}
use Rattle.p8_cog.specs.declared.progress.Had.{Had}
use Rattle.p8_cog.specs.declared.progress.Had.TheVariants.{One}
use Rattle.p8_cog.specs.Replay.{Goes, instruction, played}
use Rattle.p8_cog.specs.Stops.{Comes}
use Rattle.p8_cog.specs.Standing.{turns_of, clock_in}
use Rattle.p8_cog.specs.Reaching.{whole-takes, half-holds}
use Rattle.p8_cog.proofs.progress.Progress.take_first.Goals as goal

pub returns-in-Whole-clause-takes : goal.returns-in-Whole-clause-takes
returns-in-Whole-clause-takes c =
    let h = whole-takes c.args.cog c.args.self.now.begun c.first_turn.new.self (turns_of c.args.self.now.had) (c.args.turn.now ∷ []) c.args.turn.now (ap (λ (had : Had). turns_of had ++ c.args.turn.now ∷ []) (sym c.requires.had)) c.requires.comes c.in-Whole.ensures.comes in
    let clock : clock_in c.first_turn.new.self.clock c.args.self.now.had ≡ c.first_turn.new.self.clock = ap (clock_in c.first_turn.new.self.clock) c.requires.had in
    (h.0 ∙ ap (λ (had : Had). Goes c.first_turn.new.self (turns_of had)) (sym c.requires.had), omega (arith, h.1, clock), omega (arith, h.2, clock))

pub returns-in-Half-clause-half : goal.returns-in-Half-clause-half
returns-in-Half-clause-half c = half-holds c.args.cog _ c.args.self.now.begun c.first_turn.new.self (turns_of c.args.self.now.had) (c.args.turn.now ∷ []) c.args.turn.now (One c.args.turn.now) _ (ap (λ (had : Had). turns_of had ++ c.args.turn.now ∷ []) (sym c.requires.had)) refl c.in-Half.ensures.keeps refl c.requires.begun (omega (arith, c.requires.below)) c.requires.comes c.in-Half.ensures.comes

pub first_turn-requires-clause-comes : goal.first_turn-requires-clause-comes
first_turn-requires-clause-comes c =
    subst (λ (had : Had). Comes (played (instruction c.args.cog c.args.self.now.begun) (turns_of had)) c.args.turn.now) c.requires.had c.requires.comes
