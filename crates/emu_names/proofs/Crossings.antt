-- Texts, names and what has them may be sent to threads, and shared by threads.
use denote.Param.Send.{IsSend, IsSync}
use Rattle.emu_names.proofs.texts.Text.TheSendSync as text
use Rattle.emu_names.proofs.names.Name.TheSendSync as name
use Rattle.emu_names.proofs.rules.Fault.TheSendSync as fault
use Rattle.emu_names.proofs.names.BundleKey.TheSendSync as key
use Rattle.emu_names.specs.contracts.texts.Text as Text
use Rattle.emu_names.specs.contracts.names.Name as Name
use Rattle.emu_names.specs.contracts.names.BundleKey as BundleKey
use Rattle.emu_names.specs.contracts.rules.Fault as Fault

pub text_send : IsSend Text.the_row
text_send = text.the_send

pub text_sync : IsSync Text.the_row
text_sync = text.the_sync

pub name_send : IsSend Name.the_row
name_send = name.the_send

pub name_sync : IsSync Name.the_row
name_sync = name.the_sync

pub key_send : IsSend BundleKey.the_row
key_send = key.the_send

pub key_sync : IsSync BundleKey.the_row
key_sync = key.the_sync

pub fault_send : IsSend Fault.the_row
fault_send = fault.the_send

pub fault_sync : IsSync Fault.the_row
fault_sync = fault.the_sync
