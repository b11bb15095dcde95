-- A report that fulfils a subscription is like the report without the flag.
use Rattle.std.proofs.Common.{refl}
use Rattle.swima_model.specs.declared.report.Report.{Report}
use Rattle.swima_model.specs.declared.report.Report.TheVariants.{Inventory, Events}
use Rattle.swima_model.specs.Fulfilling.{AreAlike, FulfillingIsAlike, fulfilling}
use Rattle.swima_model.specs.Reports.{FitsAttribute}

pub fulfilling_alike : (report : Report) → AreAlike (fulfilling report) report
fulfilling_alike (Inventory kind fulfil id point records) = record { size = refl; count = refl; stamps = (λ s. s, λ s. s); consulted = (λ c. c, λ c. c) }
fulfilling_alike (Events kind fulfil id point consulted events) = record { size = refl; count = refl; stamps = (λ s. s, λ s. s); consulted = (λ c. c, λ c. c) }

pub fulfilling_fits : (report : Report) → FitsAttribute report → FitsAttribute (fulfilling report)
fulfilling_fits (Inventory kind fulfil id point records) fits = record { count = fits.count; within = fits.within; stamps = fits.stamps; consulted = fits.consulted }
fulfilling_fits (Events kind fulfil id point consulted events) fits = record { count = fits.count; within = fits.within; stamps = fits.stamps; consulted = fits.consulted }

pub fulfilling_is_alike : FulfillingIsAlike
fulfilling_is_alike report = (fulfilling_alike report, fulfilling_fits report)
