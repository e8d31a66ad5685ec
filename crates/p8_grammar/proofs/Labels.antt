-- A word that no form has stands only behind the colon of a local label, and so only in DAT.
use Rattle.std.proofs.Common.{◌≡◌, List, [], ◌∷◌, ◌++◌, Option, Some, None, Bool, true, false, refl, sym, ap, ◌∙◌, subst, append_assoc}
use Rattle.std.specs.Prelude.{option_and_then, if◌then◌else◌, ◌&&◌, IsTrue}
use Rattle.p8_tree.specs.declared.places.Place.{Place}
use Rattle.p8_grammar.specs.Lexemes.{Setting, is_dat, colon, Lexeme, mark, other, reserved, plain, Token, token}
use Rattle.p8_grammar.specs.Grammar.{word, Row, ◌▹◌, Spells, a_word, a_reserved_word}
use Rattle.p8_grammar.specs.Machine.{Shape, coloned, stays, Frame, State, state, becoming, step, walk, start}
use Rattle.p8_grammar.proofs.Settings.{inside_dat}
use Rattle.p8_grammar.proofs.FormsStand.{ShapeStands, is_coloned as stands_coloned}
use Rattle.p8_grammar.proofs.Steps.{other_stops}
use Rattle.p8_grammar.proofs.Sound.{Pending, nothing_pending, after_operator, in_hole, in_first, Begun, Stands, step_stands, start_stands}

abbrev pub is_other : Lexeme → Bool
is_other other = true
is_other x = false

abbrev pub is_colon : Lexeme → Bool
is_colon (mark colon) = true
is_colon x = false

abbrev is_coloned : Shape → Bool
is_coloned (coloned u p) = true
is_coloned sh = false

-- each such word of these stands behind a colon, in DAT
pub data Labelled (dat : Bool) : Bool → List Token → Type 0 where
  none : {c : Bool} → Labelled dat c []
  another : {c : Bool} {p : Place} {x : Lexeme} {ts : List Token} → IsTrue (if is_other (plain x) then dat && c else true) → Labelled dat (is_colon (plain x)) ts → Labelled dat c (token p x ∷ ts)

-- whether the last of these is a colon
abbrev last_is_colon : Bool → List Token → Bool
last_is_colon c [] = c
last_is_colon c (token p x ∷ ts) = last_is_colon (is_colon (plain x)) ts

last_of : (c : Bool) (ts : List Token) (p : Place) (x : Lexeme) → last_is_colon c (ts ++ token p x ∷ []) ≡ is_colon (plain x)
last_of c [] p x = refl
last_of c (token q y ∷ ts) p x = last_of (is_colon (plain y)) ts p x

-- no form takes it that isn't a colon
pub other_step : (s : Setting) (sh : Shape) (k : List Frame) (p : Place) (x : Lexeme) → is_other (plain x) ≡ true → is_coloned sh ≡ false → step (state s sh k) (token p x) ≡ None
other_step s (coloned u q) k p x e h = absurd cc
other_step s sh k p other e h = other_stops (state s sh k) p
other_step s sh k p (reserved n other) e h = other_stops (state s sh k) p
other_step s sh k p x e h = absurd cc

-- the setting that is left is in DAT where the first one is
pending_dat : {s0 s : Setting} {k : List Frame} {us : List Token} → Pending s0 s k us → is_dat s ≡ is_dat s0
pending_dat nothing_pending = refl
pending_dat (after_operator vs l p d same kept alike small low b w m g) = sym alike ∙ pending_dat p
pending_dat (in_hole {s = s} p h sp a) = inside_dat s ∙ pending_dat p
pending_dat (in_first {s = s} p d sp a) = inside_dat s ∙ pending_dat p

colon_spelled : {s : Setting} {row : Row} {p : Place} {vs : List Token} → Spells s (row ▹ word p (mark colon)) vs → (us : List Token) → last_is_colon false (us ++ vs) ≡ true
colon_spelled (a_word {p = p} {ts = ts} sp) us = ap (last_is_colon false) (sym (append_assoc us ts (token p (mark colon) ∷ []))) ∙ last_of false (us ++ ts) p (mark colon)
colon_spelled (a_reserved_word n h sp) us = absurd cc

both : (a b : Bool) → a ≡ true → b ≡ true → IsTrue (a && b)
both true b e f = f
both false b e f = absurd cc

behind_colon : (s0 s : Setting) (sh : Shape) (k : List Frame) (ts : List Token) → Begun s0 s (stays sh) k ts → is_coloned sh ≡ true → IsTrue (is_dat s0 && last_is_colon false ts)
behind_colon s0 s sh k ts b h = go b.stands b.spells h
  where
    go : {sh : Shape} {row : Row} → ShapeStands s sh row → Spells s row b.vs → is_coloned sh ≡ true → IsTrue (is_dat s0 && last_is_colon false ts)
    go (stands_coloned u d) sp h = both (is_dat s0) (last_is_colon false ts) (sym (pending_dat b.pending) ∙ d) (ap (last_is_colon false) b.is ∙ colon_spelled sp b.us)
    go st sp h = absurd cc

taken : (s0 : Setting) (st next : State) (ts : List Token) (p : Place) (x : Lexeme) → Stands s0 st ts → step st (token p x) ≡ Some next → IsTrue (if is_other (plain x) then is_dat s0 && last_is_colon false ts else true)
taken s0 (becoming s c q v k) next ts p (mark m) b h = refl
taken s0 (becoming s c q v k) next ts p x b h = absurd cc
taken s0 (state s sh k) next ts p x b h = go (is_other (plain x)) refl (is_coloned sh) refl
  where
    go : (o : Bool) → is_other (plain x) ≡ o → (c : Bool) → is_coloned sh ≡ c → IsTrue (if o then is_dat s0 && last_is_colon false ts else true)
    go false e c f = refl
    go true e true f = behind_colon s0 s sh k ts b f
    go true e false f = absurd (let z = sym h ∙ other_step s sh k p x e f in cc)

from : (s0 : Setting) (us ts : List Token) (st end : State) → Stands s0 st us → walk st ts ≡ Some end → Labelled (is_dat s0) (last_is_colon false us) ts
from s0 us [] st end b h = none
from s0 us (token p x ∷ ts) st end b h = go (step st (token p x)) refl h (λ next g w. from s0 (us ++ token p x ∷ []) ts next end (step_stands s0 st (token p x) us next b g) w)
  where
    go : (o : Option State) → step st (token p x) ≡ o → option_and_then (λ y. walk y ts) o ≡ Some end → ((next : State) → step st (token p x) ≡ Some next → walk next ts ≡ Some end → Labelled (is_dat s0) (last_is_colon false (us ++ token p x ∷ [])) ts) → Labelled (is_dat s0) (last_is_colon false us) (token p x ∷ ts)
    go None e h later = absurd cc
    go (Some next) e h later = another (taken s0 st next us p x b e) (subst (λ c. Labelled (is_dat s0) c ts) (last_of false us p x) (later next e h))

pub labelled : (s : Setting) (ts : List Token) (end : State) → walk (start s) ts ≡ Some end → Labelled (is_dat s) false ts
labelled s ts end h = from s [] ts (start s) end (start_stands s) h
