-- `acpi::maps_in_range`: the fold tests each of the 8 maps.
use Rattle.std.proofs.Common.{◌≡◌, ◌∙◌, arith, true, ◌&&◌}
use Rattle.std.proofs.lemmas.Grind.{common_steps}
use Rattle.std.specs.List.{fold}
use Rattle.mask.proofs.Every.{all_folded}
use Rattle.acpi.specs.Map.{legal_map}
use Rattle.acpi.proofs.maps_in_range.Goals as goal

pub returns : goal.returns
returns c =
    let folded : c.fold.result ≡ fold (λ legal map. legal && legal_map map) true c.args.maps.now = grind (arith, common_steps) in
    folded ∙ all_folded 0 legal_map c.args.maps.now 8 (omega arith)
