pub mod TagParts
