use Rattle.std.proofs.Common.{refl, []}
use Rattle.p8_access.specs.Worlds.{World}
use Rattle.p8_image.specs.Headers.{header_of}
use Rattle.p8_image.specs.Layout.{image_of}
use Rattle.p8_image.specs.Loading.{memory_of, start_of}
use Rattle.p8_build.specs.Builds.{objects_of}
use Rattle.p8_opt.specs.Programs.{program_of, addresses_of}
use Rattle.p8_opt.proofs.placed_laws.images_keep_meaning.Goals as goal

pub returns : goal.returns
returns c files children xs clock proper some distinct mentioned no_ring seen each fits =
    let objects = objects_of files children xs in
    let image = image_of clock objects in
    let memory = memory_of image in
    let program = program_of files children xs in
    let addresses = addresses_of files xs objects in
    let w : World = record { memory = memory; first = start_of (header_of image); script = []; clocks = 0; turns = 0 } in
    let world = c.images_have_their_methods.ensures files children xs clock proper some distinct mentioned no_ring seen each fits w refl refl in
    record {
      source = λ cog near. c.code_keeps_meaning.ensures.source memory cog program addresses (world.placed cog near);
      bytecodes = λ cog near. c.code_keeps_meaning.ensures.bytecodes memory cog program addresses (world.placed cog near);
      made = λ cog near. c.code_keeps_meaning.ensures.made memory cog program addresses (world.placed cog near);
      clean = λ cog near. c.code_keeps_meaning.ensures.clean memory cog program addresses (world.placed cog near);
    }
