-- internal: what the code's values stand for.
use Rattle.std.specs.Prelude.{ℕ, List, Option, Some, None}
use Rattle.std.specs.Borrow.{Bor}
use Rattle.p8_map.specs.declared.names.MethodNames.{MethodNames}
use Rattle.p8_image.specs.declared.parts.MethodPart.{MethodPart}
use Rattle.p8_legend.specs.declared.ranges.Ranges.{Ranges}
use Rattle.p8_code.specs.declared.operations.Scope as code
use Rattle.p8_code.specs.declared.objects.Object.{Object}
use Rattle.p8_code.specs.Operations.{Scope}
use Rattle.p8_code.specs.Listing.{FileCode}

abbrev pub now_of : Bor (List ℕ) → List ℕ
now_of text = text.now

abbrev pub scope_of : code.Scope → Scope
scope_of s = record {
  files = s.files.now;
  own = s.own.now;
  object = s.object.now;
  variables = (s.variables.now.ranges, s.variables.now.texts);
  labels = (s.labels.now.ranges, s.labels.now.texts);
  method = s.method.now;
  part = s.part.now;
  source = s.source.now;
}

abbrev pub scope_in : Option (Bor code.Scope) → Option Scope
scope_in None = None
scope_in (Some s) = Some (scope_of s.now)

-- what is known where the code of a method of an object stands, whose variables and labels these are
abbrev pub scope_with : Object → (variables labels : Ranges) → MethodNames → MethodPart → Scope
scope_with o variables labels m part = record {
  files = o.files.now;
  own = o.own.now;
  object = o.part.now;
  variables = (variables.ranges, variables.texts);
  labels = (labels.ranges, labels.texts);
  method = m;
  part = part;
  source = o.source.now;
}

abbrev pub known_of : Object → FileCode
known_of o = record { source = o.source.now; lines = o.lines.now; methods = o.codes.now }
