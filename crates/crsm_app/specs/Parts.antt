-- The part of a dump that words ask for.
use Rattle.crsm_cmd_dump.specs.declared.part.Part.{Part}
use Rattle.crsm_text_words.specs.declared.order.DumpPart.{DumpPart}

abbrev pub part_of : DumpPart → Part
part_of DumpPart.All = Part.All
part_of DumpPart.State = Part.State
part_of DumpPart.Keys = Part.Keys
