-- What the coder's own types stand for: internal.
use Rattle.p8_gen.specs.Variables as spec
use Rattle.p8_gen.specs.declared.variables.Base.{Base}
use Rattle.p8_gen.specs.declared.variables.Base.TheVariants as base
use Rattle.p8_gen.specs.declared.variables.Home.{Home}
use Rattle.p8_gen.specs.declared.variables.Operation.{Operation}
use Rattle.p8_gen.specs.declared.variables.Operation.TheVariants as operation

abbrev pub base_of : Base → spec.Base
base_of base.Pushed = spec.Pushed
base_of base.OfObject = spec.OfObject
base_of base.OfVariables = spec.OfVariables
base_of base.OfFrame = spec.OfFrame

abbrev pub home_in : Home → spec.Home
home_in home = record { base = base_of home.base; offset = home.offset; size = home.size }

abbrev pub operation_of : Operation → spec.Operation
operation_of operation.Push = spec.Push
operation_of operation.Pop = spec.Pop
operation_of (operation.Using effect) = spec.Using effect
operation_of operation.Reference = spec.Reference
