use Rattle.std.proofs.Common.{◌≡◌, ◌∙◌, ap, subst, ℕ, List, None}
use Rattle.p8_code.specs.Images.{image_code}
use Rattle.p8_inputs.specs.Programs.{binary_by, fault_of, format_of}
use Rattle.p8_inputs.proofs.Coding.{image-there}
use Rattle.p8_inputs.proofs.Logging.{bytes-all_read, bytes-read, kind-of_bytes}
use Rattle.p8_inputs.proofs.codes.image_code_in.Goals as goal

pub returns-in_ok-image_code-in-Ok-clause-text : goal.returns-in_ok-image_code-in-Ok-clause-text
returns-in_ok-image_code-in-Ok-clause-text g c =
    let kind = c.args.kind in
    let bytes = c.in_ok-bytes.bytes.items in
    let good : fault_of (format_of kind) bytes ≡ None = subst (λ (xs : List ℕ). fault_of (format_of kind) xs ≡ None) c.deref.ensures.value c.in-Ok.ensures.good in (
      bytes,
      image-there (g.S.Shelf.files c.args.shelf.now) kind c.args.file.now bytes c.in_ok-bytes.ensures.read good,
      c.in_ok-image_code-in-Ok.ensures ∙ ap image_code c.in-Ok.ensures.file ∙ ap (λ (xs : List ℕ). image_code (binary_by kind xs)) c.deref.ensures.value,
    )

pub returns-in_ok-image_code-in-Ok-clause-reads : goal.returns-in_ok-image_code-in-Ok-clause-reads
returns-in_ok-image_code-in-Ok-clause-reads g c =
    let before = g.S.Shelf.log c.args.shelf.now in
    let now = g.S.Shelf.log c.bytes_in.new.shelf in
    let files = g.S.Shelf.files c.args.shelf.now in
    let read = c.in_ok-bytes.ensures.reads in
    let of = kind-of_bytes c.args.kind in
    record {
      kept = read.kept;
      later = read.later;
      stopped = tt;
      all_read = bytes-all_read files before now (format_of c.args.kind) c.args.file.now of read.all_read;
      so_far = bytes-read files before now (format_of c.args.kind) c.args.file.now of read.so_far;
    }
