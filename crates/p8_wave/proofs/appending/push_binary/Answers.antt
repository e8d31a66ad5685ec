use Rattle.std.proofs.Common.{◌≡◌, ◌∙◌, refl, sym, ap, ℕ, ◌+◌, ◌-◌, ◌/◌, ◌%◌, ◌^◌, ◌++◌, ◌∷◌, [], ◌<◌, List, map, take, length, set, arith}
use Rattle.std.specs.List.{range_with_len}
use Rattle.std.proofs.lemmas.List.{length-set}
use Rattle.std.proofs.lemmas.Grind.{take-set_at}
use Rattle.p8_wave.specs.Wave.{binary}
use Rattle.p8_wave.proofs.Lists.{map_step}
use Rattle.p8_wave.proofs.appending.push_binary.Goals as goal

pub loop-place-preserved : goal.loop-place-preserved
loop-place-preserved c =
    let f : ℕ → ℕ = λ (k : ℕ). 48 + c.args.value / 2 ^ (c.args.width - 1 - k) % 2 in
    let place = c.loop-place.place in
    let digits = c.loop-place.digits in
    let inside : place < length digits = omega (arith, c.loop-place.invariant.size) in
    let more : take (place + 1) (set digits c.from.result c.binary_digit.result) ≡ take place digits ++ f place ∷ [] =
    ap (λ (k : ℕ). take (place + 1) (set digits k c.binary_digit.result)) c.from.ensures ∙ ap (λ (v : ℕ). take (place + 1) (set digits place v)) c.binary_digit.ensures
    ∙ take-set_at digits place (place + 1) (f place) refl inside in
    record {
      size = length-set digits c.from.result c.binary_digit.result ∙ c.loop-place.invariant.size;
      made = map_step f place [] (take place digits) _ c.loop-place.invariant.made more;
    }

pub returns : goal.returns
unfolding binary
returns c =
    let f : ℕ → ℕ = λ (k : ℕ). 48 + c.args.value / 2 ^ (c.args.width - 1 - k) % 2 in
    let all : c.loop-place.place ≡ c.args.width = omega arith in
    c.in_ok-push_text.ensures
    ∙ ap (λ (xs : List ℕ). c.args.out.now.items ++ xs) (c.first_digits.ensures ∙ ap (λ (n : ℕ). take n c.loop-place.digits) (sym all) ∙ c.loop-place.invariant.made ∙ ap (λ (n : ℕ). map f (range_with_len 0 n)) all)
