use Rattle.std.proofs.Common.{◌≡◌, ◌++◌, drop}
use Rattle.p8_map.specs.Map.{text_lines}
use Rattle.p8_map.proofs.objects.push_texts.Given as goal

abbrev pub invariant-loop-text : goal.invariant-loop-text
invariant-loop-text l = l.out.items ++ text_lines l.place (drop l.text-index l.texts) ≡ l.initial.out.items ++ text_lines l.initial.place l.texts
