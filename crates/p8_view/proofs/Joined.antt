-- Texts that are made piece by piece, and the end of a view.
use Rattle.std.proofs.Common.{◌≡◌, ◌∙◌, refl, sym, ap, ℕ, Option, List, ◌++◌, codes, length, reverse, append_assoc}
use Rattle.std.specs.Fmt.{decimal}
use Rattle.std.specs.List.{flat_map}
use Rattle.std.proofs.lemmas.List.{length-reverse}
use Rattle.p8_access.specs.declared.kinds.Access.{Access}
use Rattle.p8_access.specs.declared.kinds.Access.TheVariants.{Wait}
use Rattle.p8_access.specs.declared.kinds.Test.{Test}
use Rattle.p8_access.specs.declared.order.Turn.{Turn}
use Rattle.p8_access.specs.Worlds.{World}
use Rattle.p8_access.specs.Hub.{cogs}
use Rattle.p8_machine.specs.declared.asked.Asked.{Asked}
use Rattle.p8_legend.specs.declared.legend.Legend.{Legend}
use Rattle.p8_view.specs.Nexts.{asks_text}
use Rattle.p8_view.specs.Words.{asked_text}
use Rattle.p8_view.specs.Ending.{cog_line, end_text, last_clock, made_line, why_line}

-- a piece, and another one
pub then_one : (old a b one two : List ℕ) → one ≡ old ++ a → two ≡ one ++ b → two ≡ old ++ (a ++ b)
then_one old a b one two first second = second ∙ ap (λ (xs : List ℕ). xs ++ b) first ∙ append_assoc old a b

pub then_two : (old a b c one two three : List ℕ) → one ≡ old ++ a → two ≡ one ++ b → three ≡ two ++ c → three ≡ old ++ ((a ++ b) ++ c)
then_two old a b c one two three first second third = then_one old (a ++ b) c two three (then_one old a b one two first second) third

-- a piece, and one of two parts
pub then_pair : (old a b c one two : List ℕ) → one ≡ old ++ a → two ≡ one ++ (b ++ c) → two ≡ old ++ ((a ++ b) ++ c)
then_pair old a b c one two first second = then_one old a (b ++ c) one two first second ∙ ap (λ (xs : List ℕ). old ++ xs) (sym (append_assoc a b c))

-- an access that is no wait
pub asks-else : (legend : Legend) (local : List ℕ) (clock : ℕ) (access : Access) → ((test : Test) → access ≡ Wait test → ⊥) → asks_text legend local clock access ≡ codes ", does next at clock " ++ decimal clock ++ codes ": " ++ asked_text legend.names local access
asks-else legend local clock (Wait test) other = absurd (other test refl)
asks-else legend local clock access other = refl

joined : (old a b c : List ℕ) → ((old ++ a) ++ b) ++ c ≡ old ++ ((a ++ b) ++ c)
joined old a b c = simp append_assoc

-- the lines of the cogs, then how many turns there are, then why
lines_joined : (old a one two three : List ℕ) (made why : List ℕ) → one ≡ old ++ a → two ≡ one ++ made → three ≡ two ++ why → three ≡ old ++ ((a ++ made) ++ why)
lines_joined old a one two three made why first second third =
    third ∙ ap (λ (xs : List ℕ). xs ++ why) (second ∙ ap (λ (xs : List ℕ). xs ++ made) first) ∙ joined old a made why

pub told_end : (legend : Legend) (w : World) (counters : List (Option ℕ)) (asked : List Asked) (turns : List Turn) (count clock limit clocks : ℕ) (old one two three : List ℕ) → count ≡ length turns → clock ≡ last_clock (reverse turns) → w.turns ≡ limit → w.clocks ≡ clocks
    → one ≡ old ++ flat_map (cog_line legend w counters asked (reverse turns)) cogs → two ≡ one ++ made_line count clock → three ≡ two ++ why_line count limit clocks → three ≡ old ++ end_text legend w counters asked (reverse turns)
told_end legend w counters asked turns count clock limit clocks old one two three number last limited timed first second third =
    let past = reverse turns in
    let told = flat_map (cog_line legend w counters asked past) cogs in
    let so_many : count ≡ length past = number ∙ sym (length-reverse turns) in
    lines_joined old told one two three (made_line count clock) (why_line count limit clocks) first second third
    ∙ ap (λ (n : ℕ). old ++ ((told ++ made_line n clock) ++ why_line n limit clocks)) so_many
    ∙ ap (λ (n : ℕ). old ++ ((told ++ made_line (length past) n) ++ why_line (length past) limit clocks)) last
    ∙ ap (λ (n : ℕ). old ++ ((told ++ made_line (length past) (last_clock past)) ++ why_line (length past) n clocks)) (sym limited)
    ∙ ap (λ (n : ℕ). old ++ ((told ++ made_line (length past) (last_clock past)) ++ why_line (length past) w.turns n)) (sym timed)
