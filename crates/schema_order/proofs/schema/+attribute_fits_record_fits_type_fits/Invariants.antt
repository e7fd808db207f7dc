-- A type in a type takes a level of height.
use Rattle.std.proofs.Common.{◌+◌, ◌*◌}
use Rattle.schema_order.proofs.schema.+attribute_fits_record_fits_type_fits.Given as goal

abbrev pub decreases-Schema::type_fits : goal.decreases-Schema::type_fits
decreases-Schema::type_fits l = 4 * l.height

abbrev pub decreases-Schema::attribute_fits : goal.decreases-Schema::attribute_fits
decreases-Schema::attribute_fits l = 4 * l.height + 1

abbrev pub decreases-Schema::record_fits-fits : goal.decreases-Schema::record_fits-fits
decreases-Schema::record_fits-fits l = 4 * l.height + 2

abbrev pub decreases-Schema::record_fits : goal.decreases-Schema::record_fits
decreases-Schema::record_fits l = 4 * l.height + 3
