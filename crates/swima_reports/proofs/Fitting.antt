-- Which reports fit an attribute, and of reports that fulfil a subscription what is written.
use Rattle.std.proofs.Common.{◌≡◌, true, refl, arith}
use Rattle.swima_model.specs.Fulfilling.{fulfilling}
use Rattle.swima_model.specs.declared.report.Kind.TheVariants.{Ids, Full}
use Rattle.swima_model.specs.declared.report.Report.{Report}
use Rattle.swima_model.specs.declared.report.Report.TheVariants.{Inventory, Events}
use Rattle.swima_reports.specs.ReportType.{report_type}
use Rattle.swima_reports.specs.Written.{FitsIsAsked, FulfillingIsWritable, IsWritable, ReadFits, carried}
use Rattle.swima_reports.proofs.Writing.{consults_within, count_within, flag_fits, form_is_counted, has_stamps}

pub fits_is_asked : FitsIsAsked
fits_is_asked report = (
  λ fits. (fits.count, fits.within, fits.stamps, fits.consulted),
  λ asked. record { count = asked.0; within = asked.1; stamps = asked.2; consulted = asked.3 },
)

pub read_fits : ReadFits
read_fits attr_type report octets form within = record {
  count = count_within report octets form.form;
  within = omega (arith, within, form_is_counted attr_type report octets form);
  stamps = has_stamps report form.written;
  consulted = consults_within report form.written;
}

-- ---- reports that fulfil a subscription

-- The flag has room as it is.
fulfilling_writable : (report : Report) → IsWritable report → IsWritable (fulfilling report)
fulfilling_writable (Inventory kind fulfil id point records) writable = record { fits = (flag_fits true, writable.fits.1); carried = writable.carried }
fulfilling_writable (Events kind fulfil id point consulted events) writable = record { fits = (flag_fits true, writable.fits.1); carried = writable.carried }

-- The type of the attribute is that of the kind, and of what is reported.
fulfilling_type : (report : Report) → report_type (fulfilling report) ≡ report_type report
fulfilling_type (Inventory Ids fulfil id point records) = refl
fulfilling_type (Inventory Full fulfil id point records) = refl
fulfilling_type (Events Ids fulfil id point consulted events) = refl
fulfilling_type (Events Full fulfil id point consulted events) = refl

fulfilling_carried : (report : Report) → carried (fulfilling report) ≡ fulfilling (carried report)
fulfilling_carried (Inventory kind fulfil id point records) = refl
fulfilling_carried (Events kind fulfil id point consulted events) = refl

pub fulfilling_is_writable : FulfillingIsWritable
fulfilling_is_writable report = (fulfilling_writable report, fulfilling_type report, fulfilling_carried report)
