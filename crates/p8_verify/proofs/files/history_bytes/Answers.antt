use Rattle.std.proofs.Common.{sym, subst, ℕ, ◌≤◌, List, length, reverse, arith}
use Rattle.std.specs.List.{All}
use Rattle.std.proofs.lemmas.List.{length-reverse, reverse-reverse}
use Rattle.p8_access.specs.declared.order.Turn.{Turn}
use Rattle.p8_access.specs.Worlds.{World}
use Rattle.p8_ledger.specs.Worlds.{world_of}
use Rattle.p8_verify.specs.Halts.{NamesRegister}
use Rattle.p8_verify.specs.Table.{IsWithin}
use Rattle.p8_verify.proofs.Appending.{all-within, all-reversed}
use Rattle.p8_verify.proofs.Clocks.{no-more}
use Rattle.p8_verify.proofs.files.history_bytes.Goals as goal

pub returns : goal.returns
returns c = λ script.
    let turns : List Turn = c.args.history.now.turns.list in
    let w : World = world_of c.args.history.now.boot c.requires.ended.0 c.args.history.now.limits in
    let names : All NamesRegister turns = subst (All NamesRegister) (reverse-reverse turns) (all-reversed NamesRegister (reverse turns) (c.halts_name_registers.ensures w (reverse turns) c.requires.ended.1.legal)) in
    let most : length turns ≤ c.args.history.now.limits.turns = no-more w turns c.requires.ended.1.legal in
    let limit : c.args.history.now.limits.turns ≤ 40000 = c.requires.turns in
    record {
      head = record { clocks = c.requires.clocks; turns = c.requires.turns; count = subst (λ (n : ℕ). n ≤ 40000) (sym (length-reverse turns)) (omega arith) };
      turns = subst (All IsWithin) (sym (reverse-reverse turns)) (all-within turns c.args.history.now.proper names c.in_ok-bytes.ensures.within);
      bytes_are = c.in_ok-bytes.ensures.bytes script;
    }
