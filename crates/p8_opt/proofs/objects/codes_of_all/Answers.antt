use Rattle.std.proofs.Common.{length, ap, refl}
use Rattle.std.proofs.lemmas.Option.{slice_get_read}
use Rattle.p8_build.proofs.Lists.{count_more}
use Rattle.p8_opt.proofs.OneByOne.{no-files, one-file-more}
use Rattle.p8_opt.proofs.objects.codes_of_all.Goals as goal

pub codes_of_file-requires : goal.codes_of_file-requires
codes_of_file-requires c =
    let all = c.args.accepted.now in
    let i = c.loop-index.index in
    let f = c.index-accepted-index.result in
    c.requires.each i f (slice_get_read all (length all) i f refl c.loop-index-test.true c.index-accepted-index.is)

pub loop-index-init : goal.loop-index-init
loop-index-init c = (ap length c.new-codes.ensures, no-files c.args.accepted.now _ c.new-codes.ensures)

pub loop-index-preserved : goal.loop-index-preserved
loop-index-preserved c =
    let all = c.args.accepted.now in
    let i = c.loop-index.index in
    let f = c.index-accepted-index.result in (
      count_more c.loop-index.codes c.push.new.self c.in_ok-own.own i c.loop-index.invariant.0 c.in_ok-push.ensures.ok,
      one-file-more all i f c.loop-index.codes c.push.new.self c.in_ok-own.own
          (slice_get_read all (length all) i f refl c.loop-index-test.true c.index-accepted-index.is)
          c.loop-index.invariant.0 c.loop-index.invariant.1 c.in_ok-own.ensures c.in_ok-push.ensures.ok,
    )
