-- What ended a run, by its turns from the oldest on, and how many characters that has.
use Rattle.std.proofs.Common.{◌≡◌, ◌∙◌, sym, ap, ap₂, refl, ℕ, ◌≤◌, nat_eq, if◌then◌else◌, Bool, true, false, List, ◌++◌, codes, length, length-append, reverse, arith}
use Rattle.std.specs.Fmt.{decimal}
use Rattle.std.proofs.lemmas.Fmt.{length-decimal-le}
use Rattle.std.proofs.lemmas.List.{length-reverse}
use Rattle.p8_access.specs.declared.order.Turn.{Turn}
use Rattle.p8_access.specs.Worlds.{World}
use Rattle.p8_wave.specs.Ending.{last_clock, ended_text, end_text, enough_text, made_text, none_text, why_text}

pub ended-as : (w : World) (turns : List Turn) (clocks limit : ℕ) → w.clocks ≡ clocks → w.turns ≡ limit → ended_text (length turns) (last_clock (reverse turns)) limit clocks ≡ end_text w (reverse turns)
ended-as w turns clocks limit timed limited =
    ap (λ (n : ℕ). ended_text n (last_clock (reverse turns)) limit clocks) (sym (length-reverse turns))
    ∙ ap₂ (ended_text (length (reverse turns)) (last_clock (reverse turns))) (sym limited) (sym timed)

made-fits : (turns last : ℕ) → turns ≤ 1000000 → last ≤ 4000000000 → length (made_text turns last) ≤ 52
made-fits turns last few early =
    let told = codes " turns are made, the last at clock " in
    let count : length told ≡ 35 = refl in
    omega (
      arith,
      count,
      length-append (decimal turns ++ told) (decimal last),
      length-append (decimal turns) told,
      length-decimal-le 7 turns (omega arith) (omega (arith, few)) (omega (arith, few)),
      length-decimal-le 10 last (omega arith) (omega (arith, early)) (omega (arith, early)),
    )

why-fits-by : (all : Bool) (clocks : ℕ) → clocks ≤ 4000000000 → length (if all then enough_text clocks else none_text clocks) ≤ 60
why-fits-by true clocks early =
    let told = codes ": no more are asked for; --turns gives more" in
    let count : length told ≡ 43 = refl in
    omega (arith, count, length-append (codes " of " ++ decimal clocks) told, length-append (codes " of ") (decimal clocks), length-decimal-le 10 clocks (omega arith) (omega (arith, early)) (omega (arith, early)))
why-fits-by false clocks early =
    let told = codes ": no cog makes another before clock " in
    let count : length told ≡ 36 = refl in
    omega (arith, count, length-append told (decimal clocks), length-decimal-le 10 clocks (omega arith) (omega (arith, early)) (omega (arith, early)))

pub end-fits : (w : World) (past : List Turn) → length past ≤ 1000000 → last_clock past ≤ 4000000000 → w.clocks ≤ 4000000000 → length (end_text w past ++ codes "\n") ≤ 120
end-fits w past few early within =
    let made = made_text (length past) (last_clock past) in
    let why = why_text (length past) w.turns w.clocks in
    omega (arith, length-append (made ++ why) (codes "\n"), length-append made why, made-fits (length past) (last_clock past) few early, why-fits-by (nat_eq (length past) w.turns) w.clocks within)
