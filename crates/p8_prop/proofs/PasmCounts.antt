-- What is counted of a life of PASM is determined by it.
use Rattle.std.proofs.Common.{◌≡◌, ◌∙◌, ◌+◌, ◌-◌, ◌≤◌, ℕ, List, Option, ap, sym, arith}
use Rattle.p8_access.specs.declared.kinds.Access.{Access}
use Rattle.p8_access.specs.declared.order.Turn.{Turn}
use Rattle.p8_access.specs.Lives.{Loaded}
use Rattle.p8_cog.specs.declared.state.PasmState.{PasmState}
use Rattle.p8_cog.specs.Counters.{IsAskedIn, IsPasmCounter, loaded_from, of_instruction, of_load}
use Rattle.p8_cog.specs.Replay.{Outcome, Asks, Goes, IsLoading, after, replayed}
use Rattle.p8_cog.specs.Replaying.{after-asks, after-plus}

-- no instruction is done whole after one that asks
never-after : (loaded : Loaded) (turns : List Turn) (m n clock : ℕ) (s : PasmState) (left : List Turn) (access : Access)
    → replayed m loaded turns ≡ Asks clock access → replayed n loaded turns ≡ Goes s left → m ≤ n → ⊥
never-after loaded turns m n clock s left access asking going le =
    let sum : n ≡ n - m + m = omega (arith, le) in
    let stays : replayed n loaded turns ≡ Asks clock access =
    ap (λ (k : ℕ). replayed k loaded turns) sum ∙ after-plus loaded.cog (n - m) m _ ∙ ap (after loaded.cog (n - m)) asking ∙ after-asks loaded.cog (n - m) clock access in
    let e : Goes s left ≡ Asks clock access = sym going ∙ stays in
    cc

abbrev register-of : ℕ → Outcome → ℕ
register-of other (Goes s left) = s.at
register-of other _ = other

abbrev long-of : ℕ → Outcome → ℕ
long-of other (Goes s left) = s.long
long-of other _ = other

-- an access is asked by one instruction
asked_in-one : (memory : List ℕ) (loaded : Loaded) (turns : List Turn) (r long q other : ℕ) → IsAskedIn loaded turns r long → IsAskedIn loaded turns q other → loaded_from memory loaded.code r long ≡ loaded_from memory loaded.code q other
asked_in-one memory loaded turns r long q other a b =
    let low : a.done + 1 ≤ b.done → ⊥ = never-after loaded turns (a.done + 1) b.done a.clock b.s b.left a.access a.asks b.goes in
    let high : b.done + 1 ≤ a.done → ⊥ = never-after loaded turns (b.done + 1) a.done b.clock a.s a.left b.access b.asks a.goes in
    let same : a.done ≡ b.done = omega (arith, low, high) in
    let state : Goes a.s a.left ≡ Goes b.s b.left = sym a.goes ∙ ap (λ (k : ℕ). replayed k loaded turns) same ∙ b.goes in
    let register : r ≡ q = sym a.here ∙ ap (register-of 0) state ∙ b.here in
    let longs : long ≡ other = sym a.long_is ∙ ap (long-of 0) state ∙ b.long_is in
    λ i. loaded_from memory loaded.code (register i) (longs i)

-- no instruction asks while the load does
never-loading : (loaded : Loaded) (turns : List Turn) (r long : ℕ) → IsLoading loaded turns → IsAskedIn loaded turns r long → ⊥
unfolding after
never-loading loaded turns r long (clock, access, asking) a = never-after loaded turns 0 a.done clock a.s a.left access asking a.goes (omega arith)

pub pasm-one : (memory : List ℕ) (loaded : Loaded) (turns : List Turn) (a b : Option ℕ) → IsPasmCounter memory loaded turns a → IsPasmCounter memory loaded turns b → a ≡ b
pasm-one memory loaded turns a b (of_load loads p) (of_load other q) = p ∙ sym q
pasm-one memory loaded turns a b (of_load loads p) (of_instruction r long asked q) = absurd (never-loading loaded turns r long loads asked)
pasm-one memory loaded turns a b (of_instruction r long asked p) (of_load loads q) = absurd (never-loading loaded turns r long loads asked)
pasm-one memory loaded turns a b (of_instruction r long asked p) (of_instruction s other its q) = p ∙ asked_in-one memory loaded turns r long s other asked its ∙ sym q
