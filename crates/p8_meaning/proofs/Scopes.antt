-- What a method does with the names of its scope is the same where the file's methods are folded.
use Rattle.std.proofs.Common.{◌≡◌, refl, ap, ◌∙◌, ℕ, ◌+◌, ◌%◌, ◌^◌, ◌-◌, ◌*◌, ◌==◌, Bool, false, if◌then◌else◌, List, [], length, Option, Some, None, option_map}
use Rattle.std.specs.Str.{bytes_eq}
use Rattle.p8_tree.specs.Names.{result_word}
use Rattle.p8_tree.specs.Sources.{Source, MethodTree}
use Rattle.p8_kinds.specs.declared.name_kinds.NameKind.{NameKind}
use Rattle.p8_kinds.specs.declared.name_kinds.NameKind.TheVariants as kind_case
use Rattle.p8_words.specs.Operators.{binary_value}
use Rattle.p8_meaning.specs.Values.{changed, gives_old}
use Rattle.p8_meaning.specs.Programs.{Program, Scope, Target, File, kind_of, own_target, locals_size, setting_of}
use Rattle.p8_access.specs.declared.kinds.Origin.TheVariants.{Spin}
use Rattle.p8_access.specs.declared.kinds.Access.TheVariants.{CogInit}
use Rattle.p8_meaning.specs.Builtins.{cog_named, long_address}
use Rattle.p8_meaning.specs.Doing.{Rest, Gives, given, asks, writes_longs}
use Rattle.p8_meaning.specs.Variables.{Location, Hub, Pins, element, size_of, address_of_kind, address_of, named, part, fetches, stores, reduced, assigns, replaces, changes, changes_alone}
use Rattle.p8_meaning.specs.Calls.{Returned, used, Callee, calls, starts_method, method_of}
use Rattle.p8_meaning.specs.Expressions as expressions
use Rattle.p8_meaning.specs.Projects.{folded_method, constants_of}

-- the same scope in another program, where the file has another source
abbrev pub moved : Program → Source → Scope → Scope
moved program source s = record s { program = program; file = record s.file { source = source } }

-- the methods of that source are the file's, folded
abbrev pub Folds : File → Source → Type 0
Folds file source = (number : ℕ) → method_of (record file { source = source }) number ≡ option_map (folded_method (constants_of file number)) (method_of file number)

pub given-mapped : {A B : Type 0} (f : A → B) (o : Option A) (go : B → Rest) → given (option_map f o) go ≡ given o (λ x. go (f x))
given-mapped f None go = refl
given-mapped f (Some x) go = refl

-- what a start does once the method is known
abbrev begun : Scope → (id : ℕ) → Target → List ℕ → (stack : ℕ) → (ℕ → Rest) → MethodTree → Rest
begun s id t arguments stack go m =
    writes_longs ((long_address stack + 4) % 2 ^ 16) arguments
    (asks (CogInit (cog_named id) (Spin
    ((s.instance.base + s.addresses.code s.instance.file t.method) % 2 ^ 16)
    s.instance.base s.instance.variables (long_address stack)
    ((4 * length arguments + locals_size (setting_of s.file 0) m.locals) % 2 ^ 16))) go)

module _ (program : Program) (source : Source) (s : Scope) where
  address_of_kind-same : (name : List ℕ) (kind : Option NameKind) → address_of_kind (moved program source s) name kind ≡ address_of_kind s name kind
  address_of_kind-same name (Some (kind_case.Local offset)) = refl
  address_of_kind-same name (Some (kind_case.Global size offset)) = refl
  address_of_kind-same name (Some (kind_case.Label size)) = refl
  address_of_kind-same name (Some (kind_case.Const value)) = refl
  address_of_kind-same name (Some (kind_case.Method number params)) = refl
  address_of_kind-same name (Some (kind_case.Object item position count)) = refl
  address_of_kind-same name None = refl

  address_of-same : (name : List ℕ) → address_of (moved program source s) name ≡ address_of s name
  address_of-same name = λ i. if bytes_eq name result_word then s.frame else address_of_kind-same name (kind_of s name) i

  pub named-same : (name : List ℕ) (number : ℕ) → named (moved program source s) name number ≡ named s name number
  named-same name number = λ i. element (size_of s name) (address_of-same name i) number

  pub part-same : (name : List ℕ) (size number : ℕ) → part (moved program source s) name size number ≡ part s name size number
  part-same name size number = λ i. element size (address_of-same name i) number

  pub fetches-same : (p : Location) (go : ℕ → Rest) → fetches (moved program source s) p go ≡ fetches s p go
  fetches-same (Hub width address) go = refl
  fetches-same (Pins register high low) go = refl

  pub assigns-same : (operator : Option ℕ) (p : Location) (right : ℕ) (go : ℕ → Rest) → assigns (moved program source s) operator p right go ≡ assigns s operator p right go
  assigns-same None p right go = refl
  assigns-same (Some operator) p right go = fetches-same p (λ old. stores p (binary_value operator old right) (go (reduced p (binary_value operator old right))))

  pub replaces-same : (p : Location) (value : ℕ) (go : ℕ → Rest) → replaces (moved program source s) p value go ≡ replaces s p value go
  replaces-same p value go = fetches-same p (λ old. stores p value (go old))

  pub changes-same : (change : ℕ) (p : Location) (go : ℕ → Rest) → changes (moved program source s) change p go ≡ changes s change p go
  changes-same change p go = λ i.
      if change == 0x18 then replaces-same p 0 go i
      else if change == 0x1C then replaces-same p (2 ^ 32 - 1) go i
      else fetches-same p (λ old. stores p (changed change old) (go (reduced p (if gives_old change then old else changed change old)))) i

  pub changes_alone-same : (change : ℕ) (p : Location) (go : Rest) → changes_alone (moved program source s) change p go ≡ changes_alone s change p go
  changes_alone-same change p go = λ i.
      if change == 0x18 then stores p 0 go
      else if change == 0x1C then stores p (2 ^ 32 - 1) go
      else changes-same change p (λ value. go) i

  own_target-same : (kind : Option NameKind) → own_target (moved program source s) kind ≡ own_target s kind
  own_target-same (Some (kind_case.Method number params)) = refl
  own_target-same (Some (kind_case.Local offset)) = refl
  own_target-same (Some (kind_case.Global size offset)) = refl
  own_target-same (Some (kind_case.Label size)) = refl
  own_target-same (Some (kind_case.Const value)) = refl
  own_target-same (Some (kind_case.Object item position count)) = refl
  own_target-same None = refl

  module _ (folds : Folds s.file source) where
    starts-same : (id : ℕ) (target : Option Target) (arguments : List ℕ) (stack : ℕ) (go : ℕ → Rest) → starts_method (moved program source s) id target arguments stack go ≡ starts_method s id target arguments stack go
    starts-same id None arguments stack go = refl
    starts-same id (Some target) arguments stack go =
        ap (λ o. given o (begun s id target arguments stack go)) (folds target.method)
        ∙ given-mapped (folded_method (constants_of s.file target.method)) (method_of s.file target.method) (begun s id target arguments stack go)

    module _ (callee : Callee) (abort : Returned → Rest) where
      pub calls_own-same : (stops : Bool) (kind : Option NameKind) (arguments : List ℕ) (go : Returned → Rest) → expressions.calls_own callee (moved program source s) abort stops kind arguments go ≡ expressions.calls_own callee s abort stops kind arguments go
      calls_own-same stops kind arguments go = λ i. calls callee s stops (own_target-same kind i) arguments go abort

      pub calls_of_object-same : (stops : Bool) (kind : Option NameKind) (number : ℕ) (method : List ℕ) (arguments : List ℕ) (go : Returned → Rest) → expressions.calls_of_object callee (moved program source s) abort stops kind number method arguments go ≡ expressions.calls_of_object callee s abort stops kind number method arguments go
      calls_of_object-same stops (Some (kind_case.Object item position count)) number method arguments go = refl
      calls_of_object-same stops (Some (kind_case.Method n params)) number method arguments go = refl
      calls_of_object-same stops (Some (kind_case.Local offset)) number method arguments go = refl
      calls_of_object-same stops (Some (kind_case.Global size offset)) number method arguments go = refl
      calls_of_object-same stops (Some (kind_case.Label size)) number method arguments go = refl
      calls_of_object-same stops (Some (kind_case.Const value)) number method arguments go = refl
      calls_of_object-same stops None number method arguments go = refl

      value_of_kind-same : (name : List ℕ) (kind : Option NameKind) (go : ℕ → Rest) → expressions.value_of_kind callee (moved program source s) abort name kind go ≡ expressions.value_of_kind callee s abort name kind go
      value_of_kind-same name (Some (kind_case.Const value)) go = refl
      value_of_kind-same name (Some (kind_case.Method n params)) go = λ i. used (λ k. calls_own-same false (Some (kind_case.Method n params)) [] k i) go
      value_of_kind-same name (Some (kind_case.Local offset)) go = λ i. fetches-same (named-same name 0 i) go i
      value_of_kind-same name (Some (kind_case.Global size offset)) go = λ i. fetches-same (named-same name 0 i) go i
      value_of_kind-same name (Some (kind_case.Label size)) go = λ i. fetches-same (named-same name 0 i) go i
      value_of_kind-same name (Some (kind_case.Object item position count)) go = λ i. fetches-same (named-same name 0 i) go i
      value_of_kind-same name None go = λ i. fetches-same (named-same name 0 i) go i

      pub value_of_name-same : (name : List ℕ) (go : ℕ → Rest) → expressions.value_of_name callee (moved program source s) abort name go ≡ expressions.value_of_name callee s abort name go
      value_of_name-same name go = λ i. if bytes_eq name result_word then fetches-same (named-same name 0 i) go i else value_of_kind-same name (kind_of s name) go i

      pub begins_method-same : (id : ℕ) (method : List ℕ) (xs ys : Gives (List ℕ)) (x y : Gives ℕ) → ((go : List ℕ → Rest) → xs go ≡ ys go) → ((go : ℕ → Rest) → x go ≡ y go) → (go : ℕ → Rest)
          → expressions.begins_method callee (moved program source s) abort id method xs x go ≡ expressions.begins_method callee s abort id method ys y go
      begins_method-same id method xs ys x y arguments second go = λ i.
          arguments (λ values. second (λ stack. (ap (λ target. starts_method (moved program source s) id target values stack go) (own_target-same (kind_of s method)) ∙ starts-same id (own_target s (kind_of s method)) values stack go) i) i) i

      pub begins_pasm-same : (id : ℕ) (p q x y : Gives ℕ) → ((go : ℕ → Rest) → p go ≡ q go) → ((go : ℕ → Rest) → x go ≡ y go) → (go : ℕ → Rest)
          → expressions.begins_pasm callee (moved program source s) abort id p x go ≡ expressions.begins_pasm callee s abort id q y go
      begins_pasm-same id p q x y first second go = λ i. expressions.begins_pasm callee s abort id (λ k. first k i) (λ k. second k i) go

      pub begins_name-same : (id : ℕ) (name : List ℕ) (kind : Option NameKind) (p q x y : Gives ℕ) → ((go : ℕ → Rest) → p go ≡ q go) → ((go : ℕ → Rest) → x go ≡ y go) → (go : ℕ → Rest)
          → expressions.begins_name callee (moved program source s) abort id name kind p x go ≡ expressions.begins_name callee s abort id name kind q y go
      begins_name-same id name (Some (kind_case.Method n params)) p q x y first second go = begins_method-same id name (λ f. f []) (λ f. f []) x y (λ f. refl) second go
      begins_name-same id name (Some (kind_case.Local offset)) p q x y first second go = begins_pasm-same id p q x y first second go
      begins_name-same id name (Some (kind_case.Global size offset)) p q x y first second go = begins_pasm-same id p q x y first second go
      begins_name-same id name (Some (kind_case.Label size)) p q x y first second go = begins_pasm-same id p q x y first second go
      begins_name-same id name (Some (kind_case.Const value)) p q x y first second go = begins_pasm-same id p q x y first second go
      begins_name-same id name (Some (kind_case.Object item position count)) p q x y first second go = begins_pasm-same id p q x y first second go
      begins_name-same id name None p q x y first second go = begins_pasm-same id p q x y first second go
