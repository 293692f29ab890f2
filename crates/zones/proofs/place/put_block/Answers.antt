use Rattle.zones.specs.PlaceLaws.{put_done}
use Rattle.zones.proofs.place.put_block.Goals as goal

pub returns : goal.returns
returns c = put_done _ _ _ _ _ _ _ _ _ _ _ _ c.zone_count-n.ensures.0 c.zone_first-f.ensures.0 c.write_block.ensures c.insert_entry.ensures c.first_with-first.ensures c.set_zone.ensures
