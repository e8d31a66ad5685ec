-- What a clause of one kind of life says of all that a life may have begun with.
use Rattle.std.proofs.Common.{List}
use Rattle.p8_access.specs.declared.order.Turn.{Turn}
use Rattle.p8_access.specs.Lives.{Loaded, Entered, Begun, PasmBegun, SpinBegun}

module _ (Stands Own All : Begun → List Turn → Type 0) where
  pub pasm-every : ((e : Entered) (ts : List Turn) → Stands (SpinBegun e) ts → ⊥) → ((l : Loaded) (ts : List Turn) → Own (PasmBegun l) ts → All (PasmBegun l) ts) → ((b : Begun) (ts : List Turn) → Stands b ts → Own b ts) → (b : Begun) (ts : List Turn) → Stands b ts → All b ts
  pasm-every none same own (PasmBegun l) ts stands = same l ts (own (PasmBegun l) ts stands)
  pasm-every none same own (SpinBegun e) ts stands = absurd (none e ts stands)

  pub spin-every : ((l : Loaded) (ts : List Turn) → Stands (PasmBegun l) ts → ⊥) → ((e : Entered) (ts : List Turn) → Own (SpinBegun e) ts → All (SpinBegun e) ts) → ((b : Begun) (ts : List Turn) → Stands b ts → Own b ts) → (b : Begun) (ts : List Turn) → Stands b ts → All b ts
  spin-every none same own (SpinBegun e) ts stands = same e ts (own (SpinBegun e) ts stands)
  spin-every none same own (PasmBegun l) ts stands = absurd (none l ts stands)
