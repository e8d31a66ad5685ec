-- Where the bytecode stands that asks what was announced.
use Rattle.std.proofs.Common.{◌≡◌, ◌⊎◌, inl, inr, ℕ, ◌+◌, Bool, true, false, List, Option, Some, None, refl, sym, ◌∙◌, ap}
use Rattle.p8_access.specs.declared.kinds.Reason.{Reason}
use Rattle.p8_access.specs.declared.kinds.Access.{Access}
use Rattle.p8_access.specs.declared.kinds.Access.TheVariants.{Halt}
use Rattle.p8_access.specs.declared.order.Turn.{Turn}
use Rattle.p8_access.specs.Lives.{Begun, PasmBegun, SpinBegun}
use Rattle.p8_access.specs.Timing.{Asks, earliest}
use Rattle.p8_bcog.specs.declared.stage.SpinStage.{SpinStage}
use Rattle.p8_bcog.specs.declared.stage.SpinStage.TheVariants.{Entering, Ready, Asked, Halted, Over}
use Rattle.p8_bcog.specs.declared.step.Later.{Later}
use Rattle.p8_bcog.specs.declared.state.SpinState.{SpinState}
use Rattle.p8_bcog.specs.Counters.{IsAnnouncing, IsCounter}
use Rattle.p8_bcog.specs.Replay.{lived}
use Rattle.p8_bcog.specs.Standing.{come_to, is_under, is_amid, StandsFor}
use Rattle.p8_bcog.specs.Stops.{Announces, asked_of, asked_now, announced_at}
use Rattle.p8_bcog.proofs.Keeping.{here-is, never_ready, never_over_asks}
use Rattle.p8_bcog.proofs.Answering.{asked_here, halted_here}

amid_under : (stage : SpinStage) → is_amid stage ≡ true → is_under stage ≡ true
amid_under Entering is = is
amid_under Ready is = refl
amid_under (Asked access later) is = refl
amid_under (Halted reason) is = refl
amid_under Over is = is

amid_come : (stage : SpinStage) (done : ℕ) → is_amid stage ≡ true → come_to stage done ≡ done + 1
amid_come Entering done is = absurd (cc)
amid_come Ready done is = absurd (cc)
amid_come (Asked access later) done is = refl
amid_come (Halted reason) done is = refl
amid_come Over done is = absurd (cc)

-- it asks, or it halts the cog
pub amid_by : (stage : SpinStage) → ((access : Access) × (later : Later) × (stage ≡ Asked access later)) ⊎ ((reason : Reason) × (stage ≡ Halted reason)) → is_amid stage ≡ true
amid_by stage (inl asked) = ap is_amid asked.2
amid_by stage (inr halted) = ap is_amid halted.1

-- while a bytecode is under way
pub amid_counts : (counter : ℕ) (memory : List ℕ) (done cog : ℕ) (stage : SpinStage) (s : SpinState) (clock reached : ℕ) (announced : Option (ℕ × Access)) → is_amid stage ≡ true → Announces cog stage s clock reached announced → (b : Begun) (ts : List Turn) → StandsFor counter memory done cog stage s clock b ts → IsAnnouncing announced → IsCounter b ts (Some counter)
amid_counts counter memory done cog stage s clock reached None is announces b ts stands announcing = absurd announcing
amid_counts counter memory done cog stage s clock reached (Some asked) is announces (PasmBegun loaded) ts stands announcing = absurd stands
amid_counts counter memory done cog stage s clock reached (Some asked) is announces (SpinBegun e) ts stands announcing =
    let began = stands.began (amid_under stage is) in
    let next : lived (done + 1) e ts ≡ Asks asked.0 asked.1 =
    ap (λ (k : ℕ). lived k e ts) (sym (amid_come stage done is)) ∙ here-is memory done cog stage s clock e ts stands ∙ (announces asked.0 asked.1 refl).0 in
    (done, began.0, began.1, began.2, asked.0, asked.1, began.3, next, began.4 is)

never_both : (o : Option (ℕ × Access)) (asked : ℕ × Access) → o ≡ None → o ≡ Some asked → ⊥
never_both o asked none some = let x : None ≡ Some asked = sym none ∙ some in cc

-- a bytecode that is under way asks
amid_asks : (cog : ℕ) (stage : SpinStage) (s : SpinState) (clock : ℕ) → is_amid stage ≡ true → asked_now cog stage s clock ≡ None → ⊥
unfolding asked_now
amid_asks cog (Asked access later) s clock is none =
    never_both _ (earliest cog clock access, access) none (ap asked_of (asked_here cog (Asked access later) s clock access later refl))
amid_asks cog (Halted reason) s clock is none =
    never_both _ (earliest cog clock (Halt reason), Halt reason) none (ap asked_of (halted_here cog (Halted reason) s clock reason refl))
amid_asks cog _ s clock is none = absurd cc

-- so where it has told what it asks, something is announced
pub amid_announces : (cog : ℕ) (stage : SpinStage) (s : SpinState) (clock : ℕ) (asking : Bool) → is_amid stage ≡ true → asking ≡ true → announced_at asking cog stage s clock ≡ None → ⊥
amid_announces cog stage s clock true is told none = amid_asks cog stage s clock is none
amid_announces cog stage s clock false is told none = absurd cc

-- while none is
pub none_counts : (counter : ℕ) (memory : List ℕ) (done cog : ℕ) (stage : SpinStage) (s : SpinState) (clock reached : ℕ) (announced : Option (ℕ × Access)) → (stage ≡ Entering) ⊎ (stage ≡ Ready) ⊎ (stage ≡ Over) → Announces cog stage s clock reached announced → (b : Begun) (ts : List Turn) → StandsFor counter memory done cog stage s clock b ts → IsAnnouncing announced → IsCounter b ts None
none_counts counter memory done cog stage s clock reached None is announces b ts stands announcing = absurd announcing
none_counts counter memory done cog stage s clock reached (Some asked) is announces (PasmBegun loaded) ts stands announcing = absurd stands
none_counts counter memory done cog stage s clock reached (Some asked) (inl entering) announces (SpinBegun e) ts stands announcing =
    let none : done ≡ 0 = stands.fresh entering in
    let come : come_to stage done ≡ 0 = ap (λ (st : SpinStage). come_to st done) entering ∙ none in
    (asked.0, asked.1, ap (λ (k : ℕ). lived k e ts) (sym come) ∙ here-is memory done cog stage s clock e ts stands ∙ (announces asked.0 asked.1 refl).0)
none_counts counter memory done cog stage s clock reached (Some asked) (inr (inl ready)) announces (SpinBegun e) ts stands announcing =
    absurd (never_ready cog stage s clock asked.0 asked.1 ready (announces asked.0 asked.1 refl).0)
none_counts counter memory done cog stage s clock reached (Some asked) (inr (inr over)) announces (SpinBegun e) ts stands announcing =
    absurd (never_over_asks cog stage s clock asked.0 asked.1 over (announces asked.0 asked.1 refl).0)
