use Rattle.std.proofs.Common.{[], ◌∷◌, ◌++◌, refl, sym, ap, arith}
use Rattle.p8_cog.specs.declared.progress.Had.{Had}
use Rattle.p8_cog.specs.declared.progress.Had.TheVariants.{Two}
use Rattle.p8_cog.specs.Standing.{turns_of}
use Rattle.p8_cog.specs.Reaching.{whole-takes, half-holds}
use Rattle.p8_cog.proofs.progress.Progress.take_second.Goals as goal

pub returns-in-Whole-clause-takes : goal.returns-in-Whole-clause-takes
returns-in-Whole-clause-takes c = whole-takes c.args.cog c.args.self.now.begun c.advance.new.self (turns_of c.args.self.now.had) (c.args.first ∷ c.args.turn.now ∷ []) c.args.turn.now (ap (λ (had : Had). turns_of had ++ c.args.turn.now ∷ []) (sym c.requires.had)) c.requires.comes c.in-Whole.ensures.comes

pub returns-in-Half-clause-half : goal.returns-in-Half-clause-half
returns-in-Half-clause-half c = half-holds c.args.cog _ c.args.self.now.begun c.advance.new.self (turns_of c.args.self.now.had) (c.args.first ∷ c.args.turn.now ∷ []) c.args.turn.now (Two c.args.first c.args.turn.now) _ (ap (λ (had : Had). turns_of had ++ c.args.turn.now ∷ []) (sym c.requires.had)) refl c.in-Half.ensures.keeps refl c.requires.begun (omega (arith, c.requires.below, c.requires.first)) c.requires.comes c.in-Half.ensures.comes
