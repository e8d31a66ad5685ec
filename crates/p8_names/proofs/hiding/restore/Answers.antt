use Rattle.std.proofs.Common.{ℕ, List, Some, Option, subst, arith}
use Rattle.std.specs.Prelude.{option_map}
use Rattle.p8_fold.specs.declared.meanings.Meaning.{Meaning}
use Rattle.p8_fold.specs.ConstantEntries.{setting_of}
use Rattle.p8_kinds.specs.Kinds.{own}
use Rattle.p8_kinds.specs.FileSettings.{meaning_of_kind}
use Rattle.p8_names.specs.Changes.{IsPut}
use Rattle.p8_names.proofs.Showing.{keeps_begin, keeps_put, show_more, show_end}
use Rattle.p8_names.proofs.hiding.restore.Goals as goal

pub loop-defined-init : goal.loop-defined-init
loop-defined-init c = (c.requires, keeps_begin (setting_of c.args.consts.now))

pub loop-defined-preserved : goal.loop-defined-preserved
loop-defined-preserved c =
    let meant : List ℕ → Option Meaning = λ n. option_map meaning_of_kind (own c.args.kinds.now 0 n) in
    let put = subst (IsPut (setting_of c.loop-defined.consts) (setting_of c.put_meaning.new.consts) (Some c.defined-item.result.name.now)) c.meaning_of.ensures c.in_ok-put_meaning.ensures in (
      show_more meant (setting_of c.loop-defined.consts) (setting_of c.put_meaning.new.consts) c.args.names.now c.loop-defined.defined-index c.defined-item.result (omega arith) c.defined-item.is put c.loop-defined.invariant.0,
      keeps_put c.loop-defined.invariant.1 put,
    )

pub returns : goal.returns
returns c = show_end (λ n. option_map meaning_of_kind (own c.args.kinds.now 0 n)) (setting_of c.args.consts.now) (setting_of c.loop-defined.consts) c.args.names.now c.loop-defined.defined-index (omega arith) c.loop-defined.invariant.1 c.loop-defined.invariant.0
