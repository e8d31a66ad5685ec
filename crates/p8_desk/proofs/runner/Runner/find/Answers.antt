use Rattle.std.proofs.Common.{refl}
use Rattle.p8_desk.proofs.Running.{rides-found}
use Rattle.p8_desk.proofs.runner.Runner.find.Goals as goal

pub returns-clause-rides : goal.returns-clause-rides
returns-clause-rides c = λ w n r limit rides.
    let e = c.run_to_access-self.ensures in
    rides-found c.args.until c.args.self.now _ c.in-More.bound c.if-not-self.false c.in-More.is refl
    (record {
      keeps = e.keeps;
      tells = e.tells;
      made = e.made;
      cog = e.cog;
      announced = e.announced;
      spends = e.spends;
      forward = e.forward;
      budget = e.budget;
      strides = e.stride;
      far = e.far;
      same_pace = e.same_pace;
      same_stride = e.same_stride;
    }) w n r limit rides
