-- Why a call on the outside fails: because the object's count of faults rose in that very call.
pub use Rattle.emu_names.specs.Count.{Rose, HasCause}
pub use Rattle.emu_names.specs.Inner.Count.{next_count}
