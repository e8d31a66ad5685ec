use Rattle.std.proofs.Common.{rules}
use Rattle.p8_code.proofs.Files.{file-told}
use Rattle.p8_code.proofs.project.code_of_parts.Goals as goal

pub loop-index-preserved : goal.loop-index-preserved
loop-index-preserved c =
    file-told c.args.files.now c.args.objects.now c.args.sources.now c.args.accepted.now c.args.short.now c.loop-index.index
    c.loop-index-test.true c.requires.objects c.requires.sources c.requires.accepted
    c.index-files-index.result c.index-files-index.is c.index-objects-index.result c.index-objects-index.is c.index-sources-index.result c.index-sources-index.is
    c.index-accepted-index.result c.index-accepted-index.is c.codes_at-codes.result.now c.codes_at-codes.ensures
    c.loop-index.out.items c.push_file.new.out.items c.loop-index.base _ (search rules) (search rules) _ c.loop-index.invariant
