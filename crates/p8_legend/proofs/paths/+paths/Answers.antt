use Rattle.std.proofs.Common.{◌≡◌, ◌++◌, OnOk, subst, arith, rules}
use Rattle.p8_legend.proofs.Pathways.{no-depth, top-path, behind-path}
use Rattle.p8_legend.proofs.paths.+paths.Goals as goal

pub push_path-returns-then-depth-eq0 : goal.push_path-returns-then-depth-eq0
push_path-returns-then-depth-eq0 t c = no-depth c.args.files.now c.args.objects.now c.args.depth c.args.number c.args.out.now.items c.if-depth-eq0.true

pub push_path-returns-then-number-eq0 : goal.push_path-returns-then-number-eq0
push_path-returns-then-number-eq0 t c = top-path c.args.files.now c.args.objects.now c.args.depth c.args.number c.args.out.now.items (omega arith) c.if-number-eq0.true

pub push_path-returns : goal.push_path-returns
push_path-returns t c =
    subst (λ path. OnOk c.push_behind.result (c.push_behind.new.out.items ≡ c.args.out.now.items ++ path))
    (behind-path c.args.files.now c.args.objects.now c.args.depth c.args.number (omega arith) (omega arith)) (search rules)
