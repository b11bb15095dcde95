-- What a session writes of attributes, messages and batches. Every attribute is written without
-- NOSKIP, and every PB-PA message without EXCL.
use Rattle.std.specs.Prelude.{ℕ, true, false, List}
use Rattle.swima_model.specs.declared.report.Report.{Report}
use Rattle.swima_reports.specs.ReportType.{report_type}
use Rattle.swima_reports.specs.Written.{written_report}
use Rattle.pa_attrs.specs.declared.attr.Attr.{Attr}
use Rattle.pa_attrs.specs.declared.error.PaError.{PaError}
use Rattle.pa_attrs.specs.ErrorForm.{written_error}
use Rattle.pa_attrs.specs.MessageForm.{written_message}
use Rattle.pa_attrs.specs.Numbers.{IETF, ERROR}
use Rattle.pb_batch.specs.declared.batch.Batch.{Batch}
use Rattle.pb_batch.specs.declared.batch.Message.{Message}
use Rattle.pb_batch.specs.declared.batch.Message.TheVariants.{Pa}
use Rattle.pb_batch.specs.declared.kind.BatchKind.{BatchKind}
use Rattle.session_rules.specs.Numbers.{COLLECTOR, VALIDATOR}
use Rattle.swima_request.specs.AttributeTypes.{SWIMA_ATTRIBUTES}

-- An attribute of the IETF (RFC 5792, section 4.1).
abbrev pub attribute : ℕ → List ℕ → Attr
attribute kind value = record { noskip = false; vendor = IETF; kind = kind; value = value }

-- A PA-TNC Error (RFC 5792, section 4.2.8).
abbrev pub error_attribute : PaError → Attr
error_attribute error = attribute ERROR (written_error error)

-- A report (RFC 8412, sections 5.7 to 5.10).
abbrev pub report_attribute : Report → Attr
report_attribute report = attribute (report_type report) (written_report report)

-- A PA-TNC message with a number (RFC 5792, section 3.6), as a PB-PA message (RFC 5793,
-- section 4.5).
abbrev pub pa_message : ℕ → List Attr → Message
pa_message number attributes = Pa false IETF SWIMA_ATTRIBUTES COLLECTOR VALIDATOR (written_message (record { id = number; attrs = attributes }))

-- A batch of the client, and one of the server (RFC 5793, section 4.1).
abbrev pub client_batch : BatchKind → List Message → Batch
client_batch kind messages = record { from_server = false; kind = kind; messages = messages }

abbrev pub server_batch : BatchKind → List Message → Batch
server_batch kind messages = record { from_server = true; kind = kind; messages = messages }
