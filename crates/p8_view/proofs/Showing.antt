-- Which turns are shown, and their lines.
use Rattle.std.proofs.Common.{◌≡◌, ◌∙◌, refl, sym, ap, subst, ℕ, zero, suc, ◌+◌, ◌<◌, ◌≤◌, Bool, true, false, not, ◌&&◌, if◌then◌else◌, Option, List, [], ◌∷◌, ◌++◌, length, take, reverse, get_or, append_assoc, arith}
use Rattle.std.proofs.lemmas.Grind.{common_steps}
use Rattle.std.proofs.lemmas.List.{append-nil}
use Rattle.p8_access.specs.declared.kinds.Origin.{Origin}
use Rattle.p8_access.specs.declared.order.Turn.{Turn}
use Rattle.p8_access.specs.Worlds.{World}
use Rattle.p8_access.specs.Hub.{cog_state, origin_of}
use Rattle.p8_ledger.specs.Turns.{AreProper}
use Rattle.p8_legend.specs.declared.legend.Legend.{Legend}
use Rattle.p8_view.specs.declared.cogs.Cogs.{Cogs}
use Rattle.p8_view.specs.declared.doings.Doings.{Doings}
use Rattle.p8_view.specs.declared.drives.Drives.{Drives}
use Rattle.p8_view.specs.declared.turns.ViewOptions.{ViewOptions}
use Rattle.p8_view.specs.Drives.{drives_of}
use Rattle.p8_view.specs.Following.{AreCogs, AreDoings}
use Rattle.p8_view.specs.View.{counter_of, is_asked, is_loaded, is_shown, lines_of, loading, rate, same_drives, shown_line, turn_line, what_text, when_text}

pub told_shown : (options : ViewOptions) (past : List Turn) (turn : Turn) (before after : Drives) (left : ℕ) (asked loaded : Bool) → before ≡ drives_of past → after ≡ drives_of (turn ∷ past) → left ≡ loading past turn.key.cog
    → asked ≡ is_asked options turn.key.clock turn.key.cog (not (same_drives before after)) → loaded ≡ is_loaded turn.access left → (asked && not loaded) ≡ is_shown options past turn
told_shown options past turn before after left asked loaded b a l first second = rw (first, second, b, a, l) refl

-- the line of a turn
pub told_line : (legend : Legend) (w : World) (past : List Turn) (turn : Turn) (counter : Option ℕ) (own : Origin) (before after : Drives) (frequency : ℕ) (old one two : List ℕ)
    → own ≡ origin_of (cog_state w past turn.key.cog) → before ≡ drives_of past → after ≡ drives_of (turn ∷ past) → frequency ≡ rate w
    → one ≡ old ++ when_text frequency turn → two ≡ one ++ what_text legend own turn before after counter → two ≡ old ++ turn_line legend w past turn counter
told_line legend w past turn counter own before after frequency old one two o b a f first second =
    second
    ∙ ap (λ (xs : List ℕ). xs ++ what_text legend own turn before after counter) first
    ∙ append_assoc old (when_text frequency turn) (what_text legend own turn before after counter)
    ∙ ap (λ (n : ℕ). old ++ (when_text n turn ++ what_text legend own turn before after counter)) f
    ∙ ap (λ (x : Origin). old ++ (when_text (rate w) turn ++ what_text legend x turn before after counter)) o
    ∙ ap (λ (d : Drives). old ++ (when_text (rate w) turn ++ what_text legend (origin_of (cog_state w past turn.key.cog)) turn d after counter)) b
    ∙ ap (λ (d : Drives). old ++ (when_text (rate w) turn ++ what_text legend (origin_of (cog_state w past turn.key.cog)) turn (drives_of past) d counter)) a

-- it stands where the turn is shown
pub where_shown : (options : ViewOptions) (legend : Legend) (w : World) (past : List Turn) (turn : Turn) (counter : Option ℕ) (shows : Bool) (old new : List ℕ)
    → shows ≡ is_shown options past turn → shows ≡ true → new ≡ old ++ turn_line legend w past turn counter → new ≡ old ++ shown_line options legend w past turn counter
where_shown options legend w past turn counter shows old new is shown line =
    line ∙ ap (λ (b : Bool). old ++ (if b then turn_line legend w past turn counter else [])) (sym shown ∙ is)

-- and nothing where it isn't
pub where_hidden : (options : ViewOptions) (legend : Legend) (w : World) (past : List Turn) (turn : Turn) (counter : Option ℕ) (shows : Bool) (out : List ℕ)
    → shows ≡ is_shown options past turn → shows ≡ false → out ≡ out ++ shown_line options legend w past turn counter
where_hidden options legend w past turn counter shows out is hidden =
    sym (append-nil out) ∙ ap (λ (b : Bool). out ++ (if b then turn_line legend w past turn counter else [])) (sym hidden ∙ is)

-- one turn more
next : (turns : List Turn) (i : ℕ) (d : Turn) → i < length turns → reverse (take (i + 1) turns) ≡ get_or turns i d ∷ reverse (take i turns)
next turns i d h = grind (arith, common_steps)

pub so_many : (turns : List Turn) (i : ℕ) → i ≤ length turns → length (reverse (take i turns)) ≡ i
so_many turns i h = grind (arith, common_steps)

pub one_more : (options : ViewOptions) (legend : Legend) (w : World) (counters : List (Option ℕ)) (turns : List Turn) (i : ℕ) (d : Turn) (counter : Option ℕ) (old new : List ℕ) → i < length turns
    → counter ≡ counter_of counters i → new ≡ old ++ shown_line options legend w (reverse (take i turns)) (get_or turns i d) counter
    → old ≡ lines_of options legend w counters (reverse (take i turns)) → new ≡ lines_of options legend w counters (reverse (take (i + 1) turns))
one_more options legend w counters turns i d counter old new h is line before =
    let past = reverse (take i turns) in
    let turn = get_or turns i d in
    line
    ∙ ap (λ (xs : List ℕ). xs ++ shown_line options legend w past turn counter) before
    ∙ ap (λ (x : Option ℕ). lines_of options legend w counters past ++ shown_line options legend w past turn x) (is ∙ ap (counter_of counters) (sym (so_many turns i (omega (arith, h)))))
    ∙ sym (ap (lines_of options legend w counters) (next turns i d h))

pub cogs_more : (w : World) (turns : List Turn) (i : ℕ) (d : Turn) (c : Cogs) → i < length turns → AreCogs w (get_or turns i d ∷ reverse (take i turns)) c → AreCogs w (reverse (take (i + 1) turns)) c
cogs_more w turns i d c h are = subst (λ (past : List Turn). AreCogs w past c) (sym (next turns i d h)) are

-- a turn of a run is that of one of the eight cogs
pub of_eight : (turns : List Turn) (i : ℕ) (d : Turn) → AreProper turns → i < length turns → (get_or turns i d).key.cog < 8
of_eight [] i d proper h = absurd (omega (arith, h))
of_eight (turn ∷ turns) zero d proper h = proper.0.0
of_eight (turn ∷ turns) (suc i) d proper h = of_eight turns i d proper.1 (omega (arith, h))

-- all turns
pub whole : (turns : List Turn) (i : ℕ) → length turns ≤ i → take i turns ≡ turns
whole [] zero h = refl
whole [] (suc i) h = refl
whole (turn ∷ turns) zero h = absurd (omega (arith, h))
whole (turn ∷ turns) (suc i) h = ap (λ (ts : List Turn). turn ∷ ts) (whole turns i (omega (arith, h)))

pub doings_more : (w : World) (counters : List (Option ℕ)) (turns : List Turn) (i : ℕ) (d : Turn) (c : Doings) → i < length turns → AreDoings w counters (get_or turns i d ∷ reverse (take i turns)) c → AreDoings w counters (reverse (take (i + 1) turns)) c
doings_more w counters turns i d c h are = subst (λ (past : List Turn). AreDoings w counters past c) (sym (next turns i d h)) are
