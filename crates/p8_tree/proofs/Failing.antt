-- Faults of one number at one place are the same, and what a refusal of a part says of the whole.
use Rattle.std.proofs.Common.{◌≡◌, Result, Ok, Err, refl}
use Rattle.std.specs.Prelude.{IfErr}
use Rattle.p8_words.specs.declared.failure.Fail.{Fail}
use Rattle.p8_words.specs.declared.failure.Fail.TheVariants as fail
use Rattle.p8_tree.specs.declared.faults.Fault.{Fault}
use Rattle.p8_tree.specs.Faults.{IfRefused}

pub same_fault : (f g : Fault) → f.number ≡ g.number → f.place ≡ g.place → f ≡ g
same_fault f g n p = λ i. record { number = n i; place = p i }

pub refused_so : (P Q : Fault → Type 0) → ((f : Fault) → P f → Q f) → (e : Fail Fault) → IfRefused P e → IfRefused Q e
refused_so P Q g (fail.Refused f) h = g f h
refused_so P Q g fail.NoMemory h = tt

pub err_so : {A : Type 0} (P Q : Fault → Type 0) → ((f : Fault) → P f → Q f) → (r : Result A (Fail Fault)) → IfErr r (IfRefused P) → IfErr r (IfRefused Q)
err_so P Q g (Ok x) h = tt
err_so P Q g (Err e) h = refused_so P Q g e h

-- where no fault can be told, only memory was wanting
pub only_memory : (P : Fault → Type 0) → ((f : Fault) → ¬ P f) → (e : Fail Fault) → IfRefused P e → e ≡ fail.NoMemory
only_memory P none (fail.Refused f) h = absurd (none f h)
only_memory P none fail.NoMemory h = refl
