use Rattle.std.proofs.Common.{subst}
use Rattle.p8_build.specs.Builds.{objects_of}
use Rattle.p8_opt.specs.Lines.{lines_of, IsWorldByLines}
use Rattle.p8_opt.specs.Programs.{own_sources, addresses_of}
use Rattle.p8_opt.proofs.Files.{own-program}
use Rattle.p8_opt.proofs.Own.{own-recoded}
use Rattle.p8_opt.proofs.placed_laws.images_have_their_lines.Goals as goal

pub returns : goal.returns
returns c = λ files children xs clock proper some distinct mentioned no_ring seen compiled fits w memory first.
    subst (λ p. IsWorldByLines p (addresses_of files xs (objects_of files children xs)) (lines_of (objects_of files children xs) xs) w) (own-program files files children xs)
    (c.recoded_images_have_their_lines.ensures files (own_sources files) children xs clock proper some distinct mentioned no_ring seen (own-recoded files children xs proper compiled) fits w memory first)
