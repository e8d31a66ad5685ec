-- What words print is one text, where the shelf tells its files.
use Rattle.std.proofs.Common.{◌≡◌, ◌∙◌, sym, ap₂, subst, refl, Bool, true, false, not, List, [], ◌∷◌, filter, Option, Some, None, ℕ}
use Rattle.std.specs.List.{AllZip}
use Rattle.std.specs.Str.Lines.{lines}
use Rattle.p8_access.specs.declared.order.Turn.{Turn}
use Rattle.p8_access.specs.Worlds.{Line, World}
use Rattle.p8_access.specs.Histories.{Ended}
use Rattle.p8_tree.specs.Projects.{NamedSource}
use Rattle.p8_pins.specs.Scripts.{is_skipped, Carries}
use Rattle.p8_pins.proofs.Texts.{carried-one}
use Rattle.p8_io.specs.Shelves.{Files}
use Rattle.p8_cog.specs.Lives.{asks}
use Rattle.p8_objects.proofs.Growing.{gathers}
use Rattle.p8_objects.proofs.Wholes.{whole_project}
use Rattle.p8_report.specs.Text.{text_of}
use Rattle.p8_finish.specs.declared.finish.Finish.TheVariants.{Trace}
use Rattle.p8_inputs.specs.declared.program.Format.{Format}
use Rattle.p8_inputs.specs.declared.program.Format.TheVariants.{Source}
use Rattle.p8_inputs.specs.Inputs.{IsProgram, IsScriptFor}
use Rattle.p8_inputs.specs.Programs.{format_by, world_of}
use Rattle.p8_inputs.proofs.Gathering.{distinct, no_ring}
use Rattle.p8_commands.specs.declared.image_kind.ImageKind.{ImageKind}
use Rattle.p8_commands.specs.declared.image_kind.ImageKind.TheVariants.{Binary, Eeprom}
use Rattle.p8_commands.specs.Commands.{Running}
use Rattle.p8_prop.specs.Headline as whole
use Rattle.p8_prop.specs.Headline.{IsRun}
use Rattle.p8_prop.specs.Images.{Coding, Plain, IsImageOf}
use Rattle.p8_prop.specs.Shorts.{Short}
use Rattle.p8_prop.specs.Runs.{IsCompiledFrom, IsRunOf, IsScriptOf, IsTraceOf}
use Rattle.p8_prop.proofs.Imaging.{coding, plain-image, short-image}
use Rattle.p8_prop.proofs.OneProject.{one-start, one-project}
use Rattle.p8_prop.proofs.OneImage.{one-image, settings-of}

-- texts carry one list of lines
carried-same : (texts : List (List ℕ)) (a b : List Line) → AllZip Carries texts a → AllZip Carries texts b → a ≡ b
carried-same [] [] [] p q = refl
carried-same [] [] (y ∷ ys) p q = absurd q
carried-same [] (x ∷ xs) b p q = absurd p
carried-same (text ∷ texts) [] b p q = absurd p
carried-same (text ∷ texts) (x ∷ xs) [] p q = absurd q
carried-same (text ∷ texts) (x ∷ xs) (y ∷ ys) p q = λ i. carried-one text x y p.0 q.0 i ∷ carried-same texts xs ys p.1 q.1 i

-- a script is what the lines of its file carry
pub script-of : (files : Files) (file : Option (List ℕ)) (script : List Line) → IsScriptFor files file script → IsScriptOf files file script
script-of files None script is = is
script-of files (Some name) script is = (is.0, is.1, is.2.reads.carried)

module _ (files : List ℕ → Option (List ℕ)) where
  one-script : (file : Option (List ℕ)) (script other : List Line) → IsScriptFor (Some files) file script → IsScriptOf (Some files) file other
      → other ≡ script
  one-script None script other is also = also ∙ sym is
  one-script (Some file) script other is also =
      let same : also.0 ≡ is.0 = one-start (files file) is.0 also.0 is.1 also.1 in
      carried-same (filter (λ text. not (is_skipped text)) (lines is.0)) other script
      (subst (λ (bytes : List ℕ). AllZip Carries (filter (λ text. not (is_skipped text)) (lines bytes)) other) same also.2) is.2.reads.carried

  -- a source has one image
  from-source : (short : Bool) (top bytes other : List ℕ) (w v : World) (past late : List Turn)
      → whole.IsToldBySource (Some files) (Source short) top bytes w past → IsCompiledFrom (coding short) (Some files) top other v late → other ≡ bytes
  from-source false top bytes other w v past late (sources, clock, objects, from, is, lives) also =
      let built = from.built in
      let all = whole_project (gathers from.gathered 0 0) in
      let same : also.sources ≡ sources = one-project files top sources also.sources from.gathered also.gathered in
      let image : IsImageOf Plain sources also.children also.compiled also.objects other =
      subst (λ (files : List NamedSource). IsImageOf Plain files also.children also.compiled also.objects other) same also.image in
      sym (one-image false sources (distinct sources all.distinct) (no_ring sources all.no_ring) built.children also.children
      (settings-of sources built.children built.compiled built.each) built.compiled also.compiled objects also.objects bytes other
      (plain-image sources clock objects bytes built is) image)
  from-source true top bytes other w v past late (sources, clock, objects, from, is, lives) also =
      let built = from.built in
      let all = whole_project (gathers from.gathered 0 0) in
      let same : also.sources ≡ sources = one-project files top sources also.sources from.gathered also.gathered in
      let image : IsImageOf Short sources also.children also.compiled also.objects other =
      subst (λ (files : List NamedSource). IsImageOf Short files also.children also.compiled also.objects other) same also.image in
      sym (one-image true sources (distinct sources all.distinct) (no_ring sources all.no_ring) built.children also.children
      (settings-of sources built.children built.compiled built.each) built.short also.compiled objects also.objects bytes other
      (short-image sources clock objects bytes built is) image)

  -- and so has a file, by the ending of its name
  pub from-file : (short : Bool) (kind : Option ImageKind) (file bytes other : List ℕ) (w v : World) (past late : List Turn)
      → IsProgram (Some files) (format_by short kind) file bytes → whole.IsToldBySource (Some files) (format_by short kind) file bytes w past
      → IsRunOf (coding short) (Some files) (format_by short kind) file other v late → other ≡ bytes
  from-file short None file bytes other w v past late program told is = from-source short file bytes other w v past late told is
  from-file short (Some Binary) file bytes other w v past late program told is = one-start (files file) bytes other program.0 is
  from-file short (Some Eeprom) file bytes other w v past late program told is = one-start (files file) bytes other program.0 is

  -- and a run one trace, where its file has one image
  pub one-trace : (Coded : Coding) (format : Format) (run : Running) (text other : List ℕ)
      → ((bytes other : List ℕ) (w v : World) (past late : List Turn) → IsProgram (Some files) format run.file bytes
      → whole.IsToldBySource (Some files) format run.file bytes w past → IsRunOf Coded (Some files) format run.file other v late → other ≡ bytes)
      → IsRun (Some files) format run (Trace run.dump) text → IsTraceOf Coded (Some files) format run other → other ≡ text
  one-trace Coded format run text other one-program (w, past, is, complete, told) also =
      let bytes : also.bytes ≡ is.bytes = one-program is.bytes also.bytes w also.world past also.past is.program is.source also.program in
      let script : also.script ≡ is.script = one-script run.script is.script also.script is.pins also.pins in
      let world : also.world ≡ w =
      also.begins ∙ ap₂ (λ (bytes : List ℕ) (script : List Line). world_of format bytes script run.clocks run.turns) bytes script ∙ sym is.world in
      let turns : also.past ≡ past =
      is.history.only also.past (subst (λ (w : World). Ended asks w also.past) world also.history.ended) in
      also.told ∙ ap₂ (λ (w : World) (past : List Turn). text_of w past run.dump) world turns ∙ sym told
