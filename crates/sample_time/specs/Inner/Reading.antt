-- Words of contracts and loops beside `specs/Reading.antt`; no promise of the program rests on them.
use Rattle.sample_time.specs.declared.reading.Parts.{Parts}
use Rattle.sample_time.specs.Spelling.{DecimalText}

-- what the parts in the program's memory spell
abbrev pub text_of : Parts → DecimalText
text_of parts = record {
  negative = parts.negative;
  whole = parts.whole.now;
  fraction = parts.fraction.now;
  shrinks = parts.shrinks;
  power = parts.power.now;
}
