use Rattle.p8_expr.proofs.stack.Stack.push.Goals as goal

pub push_level-requires : goal.push_level-requires
push_level-requires c = (c.requires.high, c.bounds-below.ensures.base, c.bounds-below.ensures.depth, c.requires.left, c.bounds-below.ensures.measured)
