-- A return of a call whose record was taken.
use Rattle.std.proofs.Common.{◌≡◌, ℕ, List, ◌∷◌, Option, Some, refl, sym, ap, ◌∙◌}
use Rattle.p8_bcog.specs.declared.calls.Call.{Call}
use Rattle.p8_bcog.specs.declared.state.SpinState.{SpinState}
use Rattle.p8_bcog.specs.Newest.{trapping}
use Rattle.p8_bcog.specs.Calls.{goes_back, returns, aborts}

-- what is left of the calls before doesn't matter
back_same : (value : Option ℕ) (call : Call) (older : List Call) (s : SpinState) → goes_back value call older (record s { calls = older }) ≡ goes_back value call older s
unfolding goes_back
back_same value call older s = refl

returns_to : (cog : ℕ) (value : Option ℕ) (call : Call) (older : List Call) (s : SpinState) → returns cog value (call ∷ older) s ≡ goes_back value call older s
unfolding returns
returns_to cog value call older s = refl

aborts_to : (cog : ℕ) (value : Option ℕ) (call : Call) (older : List Call) (s : SpinState) → aborts cog value (Some (call, older)) s ≡ goes_back value call older s
unfolding aborts
aborts_to cog value call older s = refl

pub returned_by : (cog : ℕ) (value : Option ℕ) (call : Call) (older : List Call) (s : SpinState) → s.calls ≡ call ∷ older → goes_back value call older (record s { calls = older }) ≡ returns cog value s.calls s
returned_by cog value call older s is =
    back_same value call older s
    ∙ sym (returns_to cog value call older s)
    ∙ ap (λ (calls : List Call). returns cog value calls s) (sym is)

pub aborted_by : (cog : ℕ) (value : Option ℕ) (call : Call) (older : List Call) (s : SpinState) → trapping s.calls ≡ Some (call, older) → goes_back value call older (record s { calls = older }) ≡ aborts cog value (trapping s.calls) s
aborted_by cog value call older s is =
    back_same value call older s
    ∙ sym (aborts_to cog value call older s)
    ∙ ap (λ found. aborts cog value found s) (sym is)
